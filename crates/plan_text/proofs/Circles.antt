-- Each point of the circle is near the circle: by a look at each tenth of a degree.
-- Assumes nothing.
use Rattle.std.proofs.Common.{◌≡◌, ℕ, ◌+◌, ◌-◌, ◌*◌, ◌%◌, ◌<◌, ◌≤◌, Bool, true, false, ◌&&◌, leb, length, get_or, refl, ap, subst, sym, ◌∙◌, arith}
use Rattle.std.proofs.Math.Nat.{mod-mod}
use Rattle.std.proofs.lemmas.Bool.{false≢true}
use Rattle.std.proofs.lemmas.Bool.Decides.{nat_tests}
use Rattle.std.proofs.lemmas.List.Folds.{list_all_at}
use Rattle.std.proofs.lemmas.List.FromFn.{get_or-range_with_len, length-range_with_len}
use Rattle.std.specs.List.{list_all, range_with_len}
use Rattle.plan_text.specs.Pictures.{circle_point, NearCircle, radius, square_distance}

-- a look at one angle
abbrev is_near : ℕ → Bool
is_near angle = let square = square_distance (circle_point angle) in leb ((radius - 2) * (radius - 2)) square && leb square (radius * radius)

all_near : list_all is_near (range_with_len 0 3600) ≡ true
all_near = refl

not_false : (b : Bool) → (b ≡ false → ⊥) → b ≡ true
not_false true h = refl
not_false false h = absurd (h refl)

-- what is true of all numbers below n is true of each
each_below : (p : ℕ → Bool) (n k : ℕ) → k < n → list_all p (range_with_len 0 n) ≡ true → p k ≡ true
each_below p n k below all =
    let numbers = range_with_len 0 n in
    let within : k < length numbers = omega (arith, length-range_with_len 0 n) in
    let sum : 0 + k ≡ k = omega arith in
    let here : get_or numbers k 0 ≡ k = get_or-range_with_len 0 n k 0 below ∙ sum in
    not_false (p k) (λ fails. false≢true (sym (list_all_at p numbers k 0 within (ap p here ∙ fails)) ∙ all))

both : (s : ℕ) → (leb 88804 s && leb s 90000) ≡ true → (88804 ≤ s) × (s ≤ 90000)
both s e = grind (arith, nat_tests)

quarter_on : (a : ℕ) → (a % 3600 + 900) % 3600 ≡ (a + 900) % 3600
quarter_on a = omega arith

-- whole turns lead back to the same point
same_point : (a : ℕ) → circle_point (a % 3600) ≡ circle_point a
same_point a = rw (mod-mod a 3600, quarter_on a)

pub near_circle : (a : ℕ) → NearCircle (circle_point a)
near_circle a =
    let part = a % 3600 in
    let near = both (square_distance (circle_point part)) (each_below is_near 3600 part (omega arith) all_near) in
    let there : NearCircle (circle_point part) = record { inner = near.0; outer = near.1 } in
    subst NearCircle (same_point a) there
