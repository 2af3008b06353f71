-- Parts whose ends are pairwise different within each piece are few: at most five at each piece with ten possible ends.
-- Assumes nothing.
use Rattle.std.proofs.Common.{◌≡◌, ℕ, zero, suc, ◌*◌, ◌<◌, ◌≤◌, Bool, true, not, eqb, List, [], ◌∷◌, ◌++◌, map, length, get_or, filter, sym, refl, ap, ◌∙◌, subst, arith}
use lib.ListN.{length-map}
use Rattle.std.specs.List.{AllByRecursion}
use Rattle.std.proofs.lemmas.Bool.{cond_both, eqb-true, eqb-false, not-true}
use Rattle.std.proofs.ByRecursion.{All-append, All-weaker, all_kept_by, kept_by_passes}
use Rattle.std.proofs.lemmas.List.Filters.{length-filter_both}
use Rattle.trips.specs.Trips.{Absent, NoneTwice}
use Rattle.trips.proofs.Pigeonhole.{pigeonhole}
use Rattle.records.specs.Few.{Among}
use Rattle.piece_rates.specs.Climbing.{place}
use Rattle.piece_rates.proofs.Holding.{place_below, at_place}
use Rattle.unfolding.specs.Parts.{Part}

-- no end of the one part is one of the other
pub record EndsDiffer (r s : Part) : Type 0 where
  pub from_from : r.from ≡ s.from → ⊥
  pub from_to : r.from ≡ s.to → ⊥
  pub to_from : r.to ≡ s.from → ⊥
  pub to_to : r.to ≡ s.to → ⊥

-- the same where both are parts of one piece
abbrev pub Clear : Part → Part → Type 0
Clear r s = r.piece ≡ s.piece → EndsDiffer r s

abbrev pub EndsApart : List Part → Type 0
EndsApart [] = Unit {0}
EndsApart (r ∷ parts) = (r.from ≡ r.to → ⊥) × AllByRecursion (Clear r) parts × EndsApart parts

pub apart_append : (xs ys : List Part) → EndsApart xs → EndsApart ys → AllByRecursion (λ r. AllByRecursion (Clear r) ys) xs → EndsApart (xs ++ ys)
apart_append [] ys p q c = q
apart_append (x ∷ xs) ys (d, a, p) q (c, cs) = (d, All-append (Clear x) xs ys a c, apart_append xs ys p q cs)

apart_kept : (f : Part → Bool) (xs : List Part) → EndsApart xs → EndsApart (filter f xs)
apart_kept f [] h = tt
apart_kept f (x ∷ xs) (d, a, h) =
    cond_both (f x) (x ∷ filter f xs) (filter f xs) EndsApart (λ t. (d, all_kept_by f (Clear x) xs a, apart_kept f xs h)) (λ t. apart_kept f xs h)

pub all_both : {A : Type 0} (P Q : A → Type 0) (xs : List A) → AllByRecursion P xs → AllByRecursion Q xs → AllByRecursion (λ x. P x × Q x) xs
all_both P Q [] p q = tt
all_both P Q (x ∷ xs) (p, ps) (q, qs) = ((p, q), all_both P Q xs ps qs)

-- all ends of some parts
abbrev ends : List Part → List ℕ
ends [] = []
ends (r ∷ parts) = r.from ∷ r.to ∷ ends parts

absent_ends : (x : ℕ) (parts : List Part) → AllByRecursion (λ s. (x ≡ s.from → ⊥) × (x ≡ s.to → ⊥)) parts → Absent x (ends parts)
absent_ends x [] h = tt
absent_ends x (s ∷ parts) ((p, q), h) = (p, (q, absent_ends x parts h))

length_ends : (parts : List Part) → length (ends parts) ≡ 2 * length parts
length_ends [] = omega arith
length_ends (r ∷ parts) = omega (arith, length_ends parts)

none_twice_ends : (p : ℕ) (parts : List Part) → AllByRecursion (λ r. r.piece ≡ p) parts → EndsApart parts → NoneTwice (ends parts)
none_twice_ends p [] h a = tt
none_twice_ends p (r ∷ parts) (z, h) (d, c, a) =
    let differ = all_both (Clear r) (λ s. s.piece ≡ p) parts c h in (
      (d, absent_ends r.from parts (All-weaker (λ s. Clear r s × (s.piece ≡ p)) (λ s. (r.from ≡ s.from → ⊥) × (r.from ≡ s.to → ⊥)) (λ s k. let w = k.0 (z ∙ sym k.1) in (w.from_from, w.from_to)) parts differ)),
      (
        absent_ends r.to parts (All-weaker (λ s. Clear r s × (s.piece ≡ p)) (λ s. (r.to ≡ s.from → ⊥) × (r.to ≡ s.to → ⊥)) (λ s k. let w = k.0 (z ∙ sym k.1) in (w.to_from, w.to_to)) parts differ),
        none_twice_ends p parts h a,
      ),
    )

-- numbers of a list, none of them twice, are no more than the list's
place_apart : (ys : List ℕ) (x : ℕ) (xs : List ℕ) → Among x ys → AllByRecursion (λ w. Among w ys) xs → Absent x xs → Absent (place ys x) (map (place ys) xs)
place_apart ys x [] h k a = tt
place_apart ys x (w ∷ xs) h (k, ks) (p, a) =
    (λ z. p (sym (at_place ys x h) ∙ ap (λ i. get_or ys i 0) z ∙ at_place ys w k), place_apart ys x xs h ks a)

places_apart : (ys xs : List ℕ) → AllByRecursion (λ w. Among w ys) xs → NoneTwice xs → NoneTwice (map (place ys) xs)
places_apart ys [] k h = tt
places_apart ys (x ∷ xs) (k, ks) (a, h) = (place_apart ys x xs k ks a, places_apart ys xs ks h)

places_below : (ys xs : List ℕ) → AllByRecursion (λ w. Among w ys) xs → AllByRecursion (λ i. i < length ys) (map (place ys) xs)
places_below ys [] k = tt
places_below ys (x ∷ xs) (k, ks) = (place_below ys x k, places_below ys xs ks)

pub no_more_than : (ys xs : List ℕ) → AllByRecursion (λ w. Among w ys) xs → NoneTwice xs → length xs ≤ length ys
no_more_than ys xs k h =
    omega (arith, length-map xs (place ys), pigeonhole (length ys) (map (place ys) xs) (places_apart ys xs k h) (places_below ys xs k))

-- both ends are among those that may stand at the part's piece
abbrev pub EndsAmong : (ℕ → List ℕ) → Part → Type 0
EndsAmong known r = Among r.from (known r.piece) × Among r.to (known r.piece)

all_ends : (ys : List ℕ) (parts : List Part) → AllByRecursion (λ r. Among r.from ys × Among r.to ys) parts → AllByRecursion (λ w. Among w ys) (ends parts)
all_ends ys [] h = tt
all_ends ys (r ∷ parts) ((p, q), h) = (p, (q, all_ends ys parts h))

five_at_most : (known : ℕ → List ℕ) (p : ℕ) → length (known p) ≤ 10 → (parts : List Part) → AllByRecursion (λ r. r.piece ≡ p) parts → EndsApart parts → AllByRecursion (EndsAmong known) parts → length parts ≤ 5
five_at_most known p l parts at_p a h =
    let within = All-weaker (λ r. EndsAmong known r × (r.piece ≡ p)) (λ r. Among r.from (known p) × Among r.to (known p))
    (λ r k. (subst (λ i. Among r.from (known i)) k.1 k.0.0, subst (λ i. Among r.to (known i)) k.1 k.0.1)) parts
    (all_both (EndsAmong known) (λ r. r.piece ≡ p) parts h at_p) in
    omega (arith, length_ends parts, no_more_than (known p) (ends parts) (all_ends (known p) parts within) (none_twice_ends p parts at_p a))

-- Five at each of the pieces below N: those at the last piece, and the others by induction.
pub five_each : (known : ℕ → List ℕ) (N : ℕ) → ((p : ℕ) → p < N → length (known p) ≤ 10) → (parts : List Part) → AllByRecursion (λ r. r.piece < N) parts → EndsApart parts → AllByRecursion (EndsAmong known) parts → length parts ≤ 5 * N
five_each known zero l [] b a h = omega arith
five_each known zero l (r ∷ parts) (k, b) a h = absurd (omega arith)
five_each known (suc N) l parts b a h =
    let here : Part → Bool = λ r. eqb r.piece N in
    let others : Part → Bool = λ r. not (eqb r.piece N) in
    let last = five_at_most known N (l N (omega arith)) (filter here parts)
    (All-weaker (λ r. here r ≡ true) (λ r. r.piece ≡ N) (λ r t. eqb-true r.piece N t) (filter here parts) (kept_by_passes here parts))
    (apart_kept here parts a) (all_kept_by here (EndsAmong known) parts h) in
    let rest = five_each known N (λ p k. l p (omega arith)) (filter others parts)
    (All-weaker (λ r. (others r ≡ true) × (r.piece < suc N)) (λ r. r.piece < N)
    (λ r t. let q = eqb-false r.piece N (not-true (eqb r.piece N) t.0) in let z = t.1 in omega arith)
    (filter others parts) (all_both (λ r. others r ≡ true) (λ r. r.piece < suc N) (filter others parts) (kept_by_passes others parts) (all_kept_by others (λ r. r.piece < suc N) parts b)))
    (apart_kept others parts a) (all_kept_by others (EndsAmong known) parts h) in
    omega (arith, length-filter_both here others (λ r. refl) parts)
