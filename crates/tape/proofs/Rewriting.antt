-- A record's content has the record's own bytes.
-- Assumes that the record stands in the tape.
use Rattle.std.proofs.Common.{◌≡◌, ℕ, ◌+◌, ◌≤◌, List, ◌++◌, length, take, drop, sym, refl, ap, ◌∙◌, arith, take-add}
use Rattle.std.proofs.lemmas.List.{take_all, take_at, length-take-le, length-drop}
use Rattle.tape.specs.declared.contents.Content.{Content}
use Rattle.tape.specs.declared.contents.Placed.{Placed}
use Rattle.tape.specs.declared.records.Record.{Record}
use Rattle.tape.specs.Kinds.{body_length}
use Rattle.tape.specs.Contents.{kind_of, body_of, record_bytes}
use Rattle.tape.specs.Tape.{behind, Stands}
use Rattle.tape.specs.Reads.{part}
use Rattle.tape.specs.Views.{Says}
use Rattle.tape.specs.Laws.{part_of}
use Rattle.tape.proofs.Lengths.{body_long}
use Rattle.tape.proofs.RoundTrips.{stands_bytes}

module _ (t : List ℕ) (r : Record) (s : Stands t (part r)) where
  -- the body is all there
  pub whole_body : length r.body.now ≡ body_length r.kind
  whole_body =
      let w = s.whole in
      let n = body_length r.kind in
      let room : n ≤ length (drop (r.place + 1) t) = simp length-drop (omega arith) in
      ap length s.bytes ∙ length-take-le n (drop (r.place + 1) t) room

  -- so the record is the part of the tape that its content is at its place
  pub says_part : (c : Content) → Says r c → part r ≡ part_of (record { place = r.place; content = c })
  says_part c h =
      let w = whole_body in
      let body : body_of c ≡ r.body.now = h.body ∙ take_all (body_length r.kind) r.body.now (omega arith) in
      ap (λ k. record { kind = k; place = r.place; body = r.body.now }) (sym h.kind)
      ∙ ap (λ b. record { kind = kind_of c; place = r.place; body = b }) (sym body)

  pub placed_part : (x : Placed) → x.place ≡ r.place → Says r x.content → part r ≡ part_of x
  placed_part x e h = says_part x.content h ∙ ap (λ p. record { kind = kind_of x.content; place = p; body = body_of x.content }) (sym e)

module _ (t : List ℕ) (x : Placed) (s : Stands t (part_of x)) where
  pub bytes_long : x.place + length (record_bytes x.content) ≡ behind (part_of x)
  bytes_long = let l = body_long x.content in omega arith

  -- the tape up to a record and then the record's bytes are the tape up to what lies behind it
  pub front_longer : take x.place t ++ record_bytes x.content ≡ take (behind (part_of x)) t
  front_longer =
      let bs = record_bytes x.content in
      let here : bs ≡ take (length bs) (drop x.place t) =
      sym (ap (take (length bs)) (stands_bytes t (part_of x) s) ∙ take_at bs (drop (behind (part_of x)) t) (length bs) refl) in
      ap (λ v. take x.place t ++ v) here ∙ sym (take-add x.place (length bs) t) ∙ ap (λ n. take n t) bytes_long
