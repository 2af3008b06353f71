-- The checks of a plan over all three areas: what the checks of its parts find.
-- Assumes nothing.
use Rattle.std.proofs.Common.{ℕ, zero, suc, ◌<◌, ◌≤◌, List, [], ◌∷◌, get_or, Ok, Err, Result, inl, inr, ⊎_elim, arith}
use Rattle.std.proofs.lemmas.Bool.{cases_lt}
use Rattle.triangulation.specs.Trees.{side_count}
use Rattle.ring.specs.declared.Link.{Link}
use Rattle.ring.specs.declared.PlanFault.{PlanFault}
use Rattle.ring.specs.declared.PlanFault.TheVariants.{Terminals, ShortArea, BadEnds, Repeats, Crosses}
use Rattle.ring.specs.Areas.{side_area}
use Rattle.ring.specs.Faults.{Condition, First, FirstIn, Short, SomeShort}
use Rattle.plan.specs.Layout.{lent, piece_count, todo_count}

module _ (n s p t : ℕ) (links : List Link) where
  -- The number of terminals and the areas are right.
  pub record Room : Type 0 where
    pub least : 3 ≤ n
    pub most : n ≤ 4096
    pub sides : side_count n ≤ s
    pub pieces : piece_count n ≤ p
    pub list : todo_count ≤ t

  pub room : FirstIn (Condition n (lent n s p t) links) 0 2 (Ok tt) → Room
  room f =
      record {
        least = ⊎_elim (λ (h : n < 3). absurd (f Terminals (omega arith) (omega arith) (inl h))) (λ (h : 3 ≤ n). h) (cases_lt n 3);
        most = ⊎_elim (λ (h : 4096 < n). absurd (f Terminals (omega arith) (omega arith) (inr h))) (λ (h : n ≤ 4096). h) (cases_lt 4096 n);
        sides = ⊎_elim (λ (h : s < side_count n). absurd (f ShortArea (omega arith) (omega arith) (0, omega arith, h))) (λ (h : side_count n ≤ s). h) (cases_lt s (side_count n));
        pieces = ⊎_elim (λ (h : p < piece_count n). absurd (f ShortArea (omega arith) (omega arith) (1, omega arith, h))) (λ (h : piece_count n ≤ p). h) (cases_lt p (piece_count n));
        list = ⊎_elim (λ (h : t < todo_count). absurd (f ShortArea (omega arith) (omega arith) (2, omega arith, h))) (λ (h : todo_count ≤ t). h) (cases_lt t todo_count);
      }

  -- With terminals and areas right, the faults of the plan are those of its links, whichever areas are looked at.
  abbrev One : PlanFault → Type 0
  One = Condition n (side_area n s ∷ []) links

  abbrev All : PlanFault → Type 0
  All = Condition n (lent n s p t) links

  module _ (early : FirstIn All 0 2 (Ok tt)) where
    narrow : (g : PlanFault) → All g → One g
    narrow Terminals w = w
    narrow ShortArea w = absurd (early ShortArea (omega arith) (omega arith) w)
    narrow (BadEnds i) w = w
    narrow (Repeats i) w = w
    narrow (Crosses i) w = w

    -- the one area is the first of the three
    at_first : (k : ℕ) → k < 1 → Short (get_or (side_area n s ∷ []) k (record { needed = 0; given = 0 })) → SomeShort (lent n s p t)
    at_first zero h l = (0, omega arith, l)
    at_first (suc k) h l = absurd (omega arith)

    widen : (g : PlanFault) → One g → All g
    widen Terminals w = w
    widen ShortArea (k, h, l) = at_first k h l
    widen (BadEnds i) w = w
    widen (Repeats i) w = w
    widen (Crosses i) w = w

    pub all_areas : (r : Result Unit PlanFault) → First One r → First All r
    all_areas (Ok u) f = λ g w. f g (narrow g w)
    all_areas (Err e) f = (widen e f.0, λ g l w. f.1 g l (narrow g w))
