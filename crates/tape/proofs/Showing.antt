-- What stands at the reader's place, taken apart, is the record that it shows.
-- Assumes that the place is not past the end of the tape.
use Rattle.std.proofs.Common.{◌≡◌, ℕ, ◌+◌, ◌-◌, ◌<◌, ◌≤◌, List, ◌∷◌, length, get_or, take, drop, sym, refl, ap, ◌∙◌, arith}
use Rattle.std.proofs.lemmas.List.{take_all, drop_more, length-drop}
use Rattle.std.specs.List.{slice_range}
use Rattle.tape.specs.declared.kinds.Kind.{Kind}
use Rattle.tape.specs.Kinds.{kind_byte, body_length}
use Rattle.tape.specs.Reads.{Shown}

pub shown_here : (t rest body : List ℕ) (p b n : ℕ) (k : Kind) → p ≤ length t → take (length t - p) (drop p t) ≡ b ∷ rest → kind_byte k ≡ b → n ≡ body_length k → n ≤ length rest → body ≡ slice_range rest 0 n → length body ≡ n → Shown t p (record { kind = k; place = p; body = body }) (p + 1 + length body)
shown_here t rest body p b n k within first byte long room is count =
    let whole : take (length t - p) (drop p t) ≡ drop p t = take_all (length t - p) (drop p t) (omega (arith, length-drop p t)) in
    let more = ap length (sym whole ∙ first) in
    let inside : p < length t = omega (arith, length-drop p t) in
    let parts : get_or t p 0 ∷ drop (p + 1) t ≡ b ∷ rest = sym (drop_more t p 0 inside) ∙ sym whole ∙ first in
    let here : get_or t p 0 ≡ b = cc in
    let behind_it : drop (p + 1) t ≡ rest = cc in
    record {
      place = refl;
      stands =
          record {
            byte = here ∙ sym byte;
            whole = omega (arith, length-drop p t);
            bytes = is ∙ ap (λ m. take m rest) (omega arith) ∙ ap (take (body_length k)) (sym behind_it);
          };
      next = omega arith;
    }
