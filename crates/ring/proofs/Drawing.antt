-- What the fill leaves, in the words of the plan: a triangulation with every link among its sides, marked as such.
-- Assumes nothing.
use Rattle.std.proofs.Common.{◌≡◌, ℕ, ◌-◌, ◌<◌, ◌≤◌, true, List, [], ◌∷◌, map, length, Ok, Decides, sym, refl, ap, ◌∙◌, subst, inl, inr, ⊎_elim, arith}
use mathlib.Core.Path.{fun_ext}
use Rattle.std.proofs.lemmas.Bool.{cases_lt, cases_order}
use Rattle.std.proofs.lemmas.Bool.Decides.{Decides-like, same_from_decides}
use Rattle.trips.specs.Links.{Ends, Named, Straddles, SameLink}
use Rattle.triangulation.specs.Trees.{Tree, side_count, preorder, side}
use Rattle.triangulation.specs.Filling.{Joins, Filled, Uncrossed}
use Rattle.triangulation.proofs.ByPlace.{sides_by_place}
use Rattle.triangulation.proofs.Fills.{one_fill, filled_spans, links_are_sides}
use Rattle.ring.specs.declared.Area.{Area}
use Rattle.ring.specs.declared.Link.{Link}
use Rattle.ring.specs.declared.Side.{Side}
use Rattle.ring.specs.declared.PlanFault.{PlanFault}
use Rattle.ring.specs.declared.PlanFault.TheVariants.{Terminals, ShortArea, BadEnds, Crosses}
use Rattle.ring.specs.Linked.{ends_at, Linked, SameLinks, joins}
use Rattle.ring.specs.Faults.{Condition, FirstIn}
use Rattle.ring.specs.Areas.{side_at, side_ends, new_side, side_area, Fills, Drawn, EqualPlansFillAlike}
use Rattle.ring.proofs.Scans.{joins_are_links, links_joined, joined_links}
use Rattle.ring.proofs.InArea.{ends_in, stood_ends, filled_triangulated, filled_record}

same_joins : (links others : List Link) → SameLinks links others → joins links ≡ joins others
same_joins links others same = fun_ext λ a. fun_ext λ b.
    same_from_decides (joins links a b) (joins others a b)
    (Decides-like (joins links a b) (same a b).0 (same a b).1 (joins_are_links links a b)) (joins_are_links others a b)

-- The same links decide the same tree, and so the same records.
pub fills_alike : EqualPlansFillAlike
fills_alike n links others before after before' after' same p q =
    let j = same_joins links others same in
    let e = one_fill (joins others) n p.tree q.tree (subst (λ (J : Joins). Filled J p.tree 0 (n - 1)) j p.filled) q.filled in
    p.records
    ∙ (ap (λ (J : Joins). map (λ (s : Ends). record { low = s.from; high = s.to; link = J s.from s.to; leaf = 0 }) (preorder p.tree 0 (n - 1))) j
    ∙ (ap (λ (t : Tree). map (new_side others) (preorder t 0 (n - 1))) e ∙ sym q.records))

pub few_enough : (n : ℕ) (areas : List Area) (links : List Link) → FirstIn (Condition n areas links) 0 1 (Ok tt) → n ≤ 4096
few_enough n areas links p = ⊎_elim (λ (h : 4096 < n). absurd (p Terminals (omega arith) (omega arith) (inr h))) (λ (h : n ≤ 4096). h) (cases_lt 4096 n)

-- No fault holds, so the side area has room, and the number of terminals is a ring's.
pub room_enough : (n given : ℕ) (links : List Link) → FirstIn (Condition n (side_area n given ∷ []) links) 0 2 (Ok tt) → (3 ≤ n) × (n ≤ 4096) × (side_count n ≤ given)
room_enough n given links p = (
  ⊎_elim (λ (h : n < 3). absurd (p Terminals (omega arith) (omega arith) (inl h))) (λ (h : 3 ≤ n). h) (cases_lt n 3),
  ⊎_elim (λ (h : 4096 < n). absurd (p Terminals (omega arith) (omega arith) (inr h))) (λ (h : n ≤ 4096). h) (cases_lt 4096 n),
  ⊎_elim (λ (h : given < side_count n). absurd (p ShortArea (omega arith) (omega arith) (0, omega arith, h))) (λ (h : side_count n ≤ given). h) (cases_lt given (side_count n)),
)

module _ (n : ℕ) (areas : List Area) (links : List Link) (none : (g : PlanFault) → Condition n areas links g → ⊥) where
  straddling : (a b c d p q : ℕ) → Named (ends_at links p) a b → Named (ends_at links q) c d → a < c → c < b → b < d → Straddles (ends_at links p) (ends_at links q)
  straddling a b c d p q m o x y z = record { a = a; b = b; c = c; d = d; ends = m; other_ends = o; a_c = x; c_b = y; b_d = z }

  -- Of two links that straddle each other the later one would be refused.
  pub uncrossed : Uncrossed (joins links)
  uncrossed a b c d e f x y z =
      let p = links_joined links a b e in
      let q = links_joined links c d f in
      let s = straddling a b c d p.0 q.0 p.2 q.2 x y z in
      ⊎_elim
      (λ (h : p.0 ≡ q.0). let m = p.2 in let o = subst (λ (k : ℕ). Named (ends_at links k) c d) (sym h) q.2 in omega arith)
      (⊎_elim
      (λ (h : p.0 < q.0). none (Crosses q.0) (q.1, (p.0, h, inr s)))
      (λ (h : q.0 < p.0). none (Crosses p.0) (p.1, (q.0, h, inl s))))
      (cases_order p.0 q.0)

  module _ (enough : 2 ≤ n) (before after : List Side) (p : Fills n links before after) where
    -- A linked pair in order is a side.
    side_of : (x y : ℕ) → joins links x y ≡ true → x < y → y < n → (k : ℕ) × (k < side_count n) × (side_ends (side_at after k) ≡ side x y)
    side_of x y e h l =
        let w = links_are_sides (joins links) n p.tree p.filled uncrossed x y e h l in
        let s = filled_spans (joins links) p.tree 0 (n - 1) p.filled in
        (w.1, ((sides_by_place n p.tree enough s).1 w.0 x y w.1 (side 0 0) w.2).0, stood_ends n after enough (filled_triangulated n links links before after p) w.0 x y w.1 w.2)

    every_link : (i : ℕ) → i < length links → (k : ℕ) × (k < side_count n) × SameLink (side_ends (side_at after k)) (ends_at links i)
    every_link i h =
        let a = (ends_at links i).from in
        let b = (ends_at links i).to in
        let ok : (a < n) × (b < n) = (
          ⊎_elim (λ (l : a < n). l) (λ (l : n ≤ a). absurd (none (BadEnds i) (h, inl l))) (cases_lt a n),
          ⊎_elim (λ (l : b < n). l) (λ (l : n ≤ b). absurd (none (BadEnds i) (h, inr (inl l)))) (cases_lt b n),
        ) in
        ⊎_elim
        (λ (e : a ≡ b). absurd (none (BadEnds i) (h, inr (inr e))))
        (⊎_elim
        (λ (l : a < b).
        let w = side_of a b (joined_links links a b i h (inl (refl, refl))) l ok.1 in
        (w.0, w.1, inl (ap (λ (z : Ends). z.from) w.2, ap (λ (z : Ends). z.to) w.2)))
        (λ (l : b < a).
        let w = side_of b a (joined_links links b a i h (inr (refl, refl))) l ok.0 in
        (w.0, w.1, inr (ap (λ (z : Ends). z.from) w.2, ap (λ (z : Ends). z.to) w.2))))
        (cases_order a b)

    pub fills_drawn : Drawn n links before after
    fills_drawn =
        let at = filled_record n links links before after p enough in
        record {
          fills = p;
          triangulated = filled_triangulated n links links before after p;
          every_link = every_link;
          marked = λ k h.
              let e = ends_in n p.tree k in
              subst (λ (r : Side). Decides r.link (Linked links r.low r.high)) (sym (at k h)) (joins_are_links links e.from e.to);
          unassigned = λ k h. ap (λ (r : Side). r.leaf) (at k h);
        }
