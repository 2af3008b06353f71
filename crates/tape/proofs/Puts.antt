-- Bytes put into an area, one piece right behind another.
-- Assumes that the area is long enough.
use Rattle.std.proofs.Common.{◌≡◌, ℕ, ◌+◌, ◌-◌, ◌<◌, ◌≤◌, List, [], ◌++◌, length, take, drop, sym, ap, ◌∙◌, arith}
use borrow.Rule.Slice.PartMut.{put_mid}
use Rattle.std.proofs.lemmas.List.{append_assoc, take_at, drop_at, drop-drop, append-nil, take_rest, drop_all, length-drop}
use Rattle.tape.specs.declared.faults.WriteFault.{WriteFault}
use Rattle.tape.specs.Writes.{Stored, Refused}

-- what lies behind the front of an area is what the area had there before
behind_front : (before v front : List ℕ) (at k : ℕ) → v ≡ front ++ drop at before → at ≡ length front → k ≡ length v - at → take k (drop at v) ≡ drop at before
behind_front before v front at k is long rest =
    ap (λ m. take m (drop at v)) rest ∙ take_rest v at ∙ ap (drop at) is ∙ drop_at front (drop at before) at (sym long)

-- Bytes stored in what lies behind the front of an area: v is the area now, which has the front and
-- behind it what the area had before; then the front is longer by the bytes.
module _ (before v front bytes last : List ℕ) (at n k : ℕ) (is : v ≡ front ++ drop at before) (long : at ≡ length front) (inside : at ≤ length before) (rest : k ≡ length v - at) (s : Stored bytes (take k (drop at v)) n last) where
  tail : take k (drop at v) ≡ drop at before
  tail = behind_front before v front at k is long rest

  pub longer_area : put_mid at k v last ≡ (front ++ bytes) ++ drop (at + n) before
  longer_area =
      let part : last ≡ bytes ++ drop (at + n) before = s.area ∙ ap (λ w. bytes ++ w) (ap (drop n) tail ∙ drop-drop n at before) in
      let head : take at v ≡ front = ap (take at) is ∙ take_at front (drop at before) at (sym long) in
      let gone : drop k (drop at v) ≡ [] = drop-drop k at v ∙ drop_all (at + k) v (omega arith) in
      ap (λ w. w ++ (last ++ drop k (drop at v))) head
      ∙ ap (λ w. front ++ (last ++ w)) gone
      ∙ ap (λ w. front ++ w) (append-nil last ∙ part)
      ∙ sym (append_assoc front bytes (drop (at + n) before))

-- a refusal behind a front: the bytes would have gone past the area
pub refused_behind : (before v front bytes last : List ℕ) (at k : ℕ) (f : WriteFault) → v ≡ front ++ drop at before → at ≡ length front → at ≤ length before → k ≡ length v - at → Refused bytes (take k (drop at v)) f last → length before < at + length bytes
refused_behind before v front bytes last at k f is long inside rest r =
    let short = r.short in
    let l = ap length (behind_front before v front at k is long rest) ∙ length-drop at before in
    omega arith
