-- The first fault of a plan: the checks one after the other.
-- Assumes nothing.
use Rattle.std.proofs.Common.{◌≡◌, ℕ, suc, ◌+◌, ◌*◌, ◌<◌, ◌≤◌, ◌⊎◌, List, ◌∷◌, ◌++◌, length, take, drop, Ok, Err, Result, sym, subst, inl, inr, ⊎_elim, arith}
use Rattle.std.proofs.lemmas.Bool.{cases_lt}
use Rattle.std.proofs.lemmas.List.{length-append, length-take-le}
use Rattle.std.proofs.Math.ListN.{get_or-append}
use Rattle.std.proofs.Math.Seq.{get_or-append_seam, split_at}
use Rattle.trips.specs.Links.{Ends, Cross, SameLink}
use Rattle.ring.specs.declared.Area.{Area}
use Rattle.ring.specs.declared.Link.{Link}
use Rattle.ring.specs.declared.PlanFault.{PlanFault}
use Rattle.ring.specs.declared.PlanFault.TheVariants.{Terminals, ShortArea, BadEnds, Repeats, Crosses}
use Rattle.ring.specs.Linked.{ends_of, ends_at, link_at}
use Rattle.ring.specs.Faults.{turn, Bad, Among, Earlier, Conflict, Condition, FirstIn, First}
use Rattle.ring.proofs.Scans.{no_link}

-- Turns from a up to b, then from b up to c.
pub first_more : (Holds : PlanFault → Type 0) (a b c : ℕ) (r : Result Unit PlanFault) → a ≤ b → FirstIn Holds a b (Ok tt) → FirstIn Holds b c r → FirstIn Holds a c r
first_more Holds a b c (Ok u) h p q = λ g m o w. ⊎_elim (λ (k : turn g < b). p g m k w) (λ (k : b ≤ turn g). q g k o w) (cases_lt (turn g) b)
first_more Holds a b c (Err f) h p q =
    let l = q.1 in
    (q.0, omega arith, q.2, λ g m o w. ⊎_elim (λ (k : turn g < b). p g m k w) (λ (k : b ≤ turn g). q.3 g k o w) (cases_lt (turn g) b))

-- A fault found early is also the first of a longer row of turns.
pub first_early : (Holds : PlanFault → Type 0) (a b c : ℕ) (f : PlanFault) → b ≤ c → FirstIn Holds a b (Err f) → FirstIn Holds a c (Err f)
first_early Holds a b c f h q = let l = q.2 in (q.0, q.1, omega arith, q.3)

-- A conflict that is no repeat is a crossing.
pub crosses_left : (e : Ends) (links : List Link) → (Among SameLink e links → ⊥) → Among Conflict e links → Among Cross e links
crosses_left e links new w = (
  w.0,
  w.1,
  ⊎_elim
      (λ (h : SameLink e (ends_at links w.0)). absurd (new (w.0, w.1, h)))
      (λ (h : Cross e (ends_at links w.0)). h)
      w.2,
)

-- A link, the links before it and those after it.
module _ (n : ℕ) (areas : List Area) (earlier later : List Link) (link : Link) where
  abbrev Plan : List Link
  Plan = earlier ++ link ∷ later

  link_is : link_at Plan (length earlier) ≡ link
  link_is = get_or-append_seam earlier link later no_link

  is_earlier : (k : ℕ) → k < length earlier → link_at Plan k ≡ link_at earlier k
  is_earlier k h = get_or-append earlier (link ∷ later) no_link k h

  -- A relation to one of the links before it.
  among : (R : Ends → Ends → Type 0) → Earlier R Plan (length earlier) → Among R (ends_of link) earlier
  among R w = (
    w.0,
    w.1,
    subst (λ (x : Link). R (ends_of x) (ends_at earlier w.0)) link_is
        (subst (λ (x : Link). R (ends_at Plan (length earlier)) (ends_of x)) (is_earlier w.0 w.1) w.2),
  )

  is_among : (R : Ends → Ends → Type 0) → Among R (ends_of link) earlier → Earlier R Plan (length earlier)
  is_among R w = (
    w.0,
    w.1,
    subst (λ (x : Link). R (ends_of x) (ends_at Plan w.0)) (sym link_is)
        (subst (λ (x : Link). R (ends_of link) (ends_of x)) (sym (is_earlier w.0 w.1)) w.2),
  )

  in_plan : length earlier < length Plan
  in_plan = let l = length-append earlier (link ∷ later) in omega arith

  -- The faults whose turn falls to the link.
  of_link : (g : PlanFault) → 3 + 3 * length earlier ≤ turn g → turn g < 6 + 3 * length earlier → Condition n areas Plan g
      → ((turn g ≡ 3 + 3 * length earlier) × Bad n (ends_of link))
      ⊎ (((turn g ≡ 4 + 3 * length earlier) × Among SameLink (ends_of link) earlier) ⊎ ((turn g ≡ 5 + 3 * length earlier) × Among Cross (ends_of link) earlier))
  of_link Terminals p q w = absurd (omega arith)
  of_link ShortArea p q w = absurd (omega arith)
  of_link (BadEnds j) p q w =
      let e : j ≡ length earlier = omega arith in
      inl (omega arith, subst (λ (x : Link). Bad n (ends_of x)) link_is (subst (λ (k : ℕ). Bad n (ends_at Plan k)) e w.1))
  of_link (Repeats j) p q w =
      let e : j ≡ length earlier = omega arith in
      inr (inl (omega arith, among SameLink (subst (λ (k : ℕ). Earlier SameLink Plan k) e w.1)))
  of_link (Crosses j) p q w =
      let e : j ≡ length earlier = omega arith in
      inr (inr (omega arith, among Cross (subst (λ (k : ℕ). Earlier Cross Plan k) e w.1)))

  module _ (good : Bad n (ends_of link) → ⊥) where
    pub repeats_first : Among SameLink (ends_of link) earlier → FirstIn (Condition n areas Plan) (3 + 3 * length earlier) (6 + 3 * length earlier) (Err (Repeats (length earlier)))
    repeats_first e = (
      (in_plan, is_among SameLink e),
      omega arith,
      omega arith,
      λ g p q w.
          ⊎_elim (λ (x : (turn g ≡ 3 + 3 * length earlier) × Bad n (ends_of link)). good x.1)
          (⊎_elim (λ (x : (turn g ≡ 4 + 3 * length earlier) × Among SameLink (ends_of link) earlier). let z = x.0 in omega arith)
          (λ (x : (turn g ≡ 5 + 3 * length earlier) × Among Cross (ends_of link) earlier). let z = x.0 in omega arith))
          (of_link g p (omega arith) w),
    )

    module _ (new : Among SameLink (ends_of link) earlier → ⊥) where
      pub crosses_first : Among Cross (ends_of link) earlier → FirstIn (Condition n areas Plan) (3 + 3 * length earlier) (6 + 3 * length earlier) (Err (Crosses (length earlier)))
      crosses_first e = (
        (in_plan, is_among Cross e),
        omega arith,
        omega arith,
        λ g p q w.
            ⊎_elim (λ (x : (turn g ≡ 3 + 3 * length earlier) × Bad n (ends_of link)). good x.1)
            (⊎_elim (λ (x : (turn g ≡ 4 + 3 * length earlier) × Among SameLink (ends_of link) earlier). new x.1)
            (λ (x : (turn g ≡ 5 + 3 * length earlier) × Among Cross (ends_of link) earlier). let z = x.0 in omega arith))
            (of_link g p (omega arith) w),
      )

      pub no_fault : (Among Cross (ends_of link) earlier → ⊥) → FirstIn (Condition n areas Plan) (3 + 3 * length earlier) (6 + 3 * length earlier) (Ok tt)
      no_fault apart = λ g p q w.
          ⊎_elim (λ (x : (turn g ≡ 3 + 3 * length earlier) × Bad n (ends_of link)). good x.1)
          (⊎_elim
          (λ (x : (turn g ≡ 4 + 3 * length earlier) × Among SameLink (ends_of link) earlier). new x.1)
          (λ (x : (turn g ≡ 5 + 3 * length earlier) × Among Cross (ends_of link) earlier). apart x.1))
          (of_link g p q w)

module _ (n : ℕ) (areas : List Area) (links : List Link) where
  -- What holds of a link and the links before it, whatever comes later, holds in the plan.
  pub in_turn : (i : ℕ) (r : Result Unit PlanFault) → i < length links
      → ((later : List Link) → FirstIn (Condition n areas (take i links ++ link_at links i ∷ later)) (3 + 3 * length (take i links)) (6 + 3 * length (take i links)) r)
      → FirstIn (Condition n areas links) (3 + 3 * i) (6 + 3 * i) r
  in_turn i r h p =
      subst (λ (plan : List Link). FirstIn (Condition n areas plan) (3 + 3 * i) (6 + 3 * i) r) (sym (split_at links i no_link h))
      (subst (λ (k : ℕ). FirstIn (Condition n areas (take i links ++ link_at links i ∷ drop (suc i) links)) (3 + 3 * k) (6 + 3 * k) r)
      (length-take-le i links (omega arith)) (p (drop (suc i) links)))

  -- No fault of the plan has the free turn.
  free_turn : FirstIn (Condition n areas links) 2 3 (Ok tt)
  free_turn Terminals p q w = omega arith
  free_turn ShortArea p q w = omega arith
  free_turn (BadEnds j) p q w = omega arith
  free_turn (Repeats j) p q w = omega arith
  free_turn (Crosses j) p q w = omega arith

  -- A fault that holds has its turn before the links end.
  in_time : (g : PlanFault) → Condition n areas links g → turn g < 3 + 3 * length links
  in_time Terminals w = omega arith
  in_time ShortArea w = omega arith
  in_time (BadEnds j) w = let h = w.0 in omega arith
  in_time (Repeats j) w = let h = w.0 in omega arith
  in_time (Crosses j) w = let h = w.0 in omega arith

  pub first_of_all : (r : Result Unit PlanFault) → FirstIn (Condition n areas links) 0 (3 + 3 * length links) r → First (Condition n areas links) r
  first_of_all (Ok u) p = λ g w. p g (omega arith) (in_time g w) w
  first_of_all (Err f) p = (p.0, λ g q w. p.3 g (omega arith) q w)

  -- Terminals and areas are right, and the links are answered for.
  pub first_by_links : (r : Result Unit PlanFault) → FirstIn (Condition n areas links) 0 2 (Ok tt) → FirstIn (Condition n areas links) 3 (3 + 3 * length links) r
      → First (Condition n areas links) r
  first_by_links r p q =
      let H : PlanFault → Type 0 = Condition n areas links in
      first_of_all r
      (first_more H 0 2 (3 + 3 * length links) r (omega arith) p (first_more H 2 3 (3 + 3 * length links) r (omega arith) free_turn q))
