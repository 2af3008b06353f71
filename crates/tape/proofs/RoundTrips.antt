-- What is written for a list of contents reads back as that list, and what is read writes back as the same bytes.
-- Assumes that fields fit their widths, where two contents are told apart by their bytes.
use Rattle.std.proofs.Common.{◌≡◌, ℕ, suc, ◌+◌, List, [], ◌∷◌, ◌++◌, map, length, take, drop, sym, refl, ap, ◌∙◌, subst, one-add, arith}
use Rattle.std.proofs.lemmas.List.{append_assoc, append-nil, get_or_at, drop_at, take_at, drop_all, drop-drop, drop_more, take-append-drop, length-append}
use Rattle.tape.specs.declared.contents.Content.{Content}
use Rattle.tape.specs.declared.contents.Placed.{Placed}
use Rattle.tape.specs.Kinds.{kind_byte, body_length}
use Rattle.tape.specs.Contents.{kind_of, body_of, record_bytes}
use Rattle.tape.specs.Tape.{Part, behind, Stands, Ending, regular, From, at_end, at_unknown, at_cut, at_record}
use Rattle.tape.specs.Laws.{AllFit, part_of, placed, content_of, tape_bytes}
use Rattle.tape.proofs.Lengths.{body_long}

record_long : (c : Content) → length (record_bytes c) ≡ 1 + body_length (kind_of c)
record_long c = ap suc (body_long c) ∙ sym (one-add (body_length (kind_of c)))

-- a record's bytes stand where they follow some bytes in a tape
pub stands_in : (pre : List ℕ) (c : Content) (rest : List ℕ) (p : ℕ) → length pre ≡ p → Stands (pre ++ (record_bytes c ++ rest)) (part_of (record { place = p; content = c }))
stands_in pre c rest p e =
    let k = kind_of c in
    let b = kind_byte k in
    let body = body_of c in
    let t = pre ++ (b ∷ (body ++ rest)) in
    let long : length t ≡ length pre + suc (length (body ++ rest)) = length-append pre (b ∷ (body ++ rest)) in
    let inner = length-append body rest in
    let fits = body_long c in
    let past : drop (p + 1) t ≡ body ++ rest =
    sym (drop-drop 1 p t) ∙ ap (drop 1) (drop_at pre (b ∷ (body ++ rest)) p e) in
    record {
      byte = get_or_at pre b (body ++ rest) 0 p e;
      whole = omega arith;
      bytes = sym (ap (take (body_length k)) past ∙ take_at body rest (body_length k) fits);
    }

-- contents written behind some bytes are read from the place where those end
pub read_from : (pre : List ℕ) (cs : List Content) (p : ℕ) → length pre ≡ p → From (pre ++ tape_bytes cs) p (map part_of (placed p cs)) regular
read_from pre [] p e = at_end p (sym e ∙ ap length (sym (append-nil pre)))
read_from pre (c ∷ cs) p e =
    let x : Placed = record { place = p; content = c } in
    let q : ℕ = p + length (record_bytes c) in
    let same : (pre ++ record_bytes c) ++ tape_bytes cs ≡ pre ++ (record_bytes c ++ tape_bytes cs) = append_assoc pre (record_bytes c) (tape_bytes cs) in
    let on = read_from (pre ++ record_bytes c) cs q (length-append pre (record_bytes c) ∙ ap (λ n. n + length (record_bytes c)) e) in
    let there : behind (part_of x) ≡ q = let l = record_long c in omega arith in
    at_record p (part_of x) (map part_of (placed q cs)) regular refl (stands_in pre c (tape_bytes cs) p e)
    (subst (λ v. From (pre ++ (record_bytes c ++ tape_bytes cs)) v (map part_of (placed q cs)) regular) (sym there)
    (subst (λ v. From v q (map part_of (placed q cs)) regular) same on))

-- from its place on, a tape has a record's bytes and then what lies behind the record
pub stands_bytes : (t : List ℕ) (x : Part) → Stands t x → drop x.place t ≡ (kind_byte x.kind ∷ x.body) ++ drop (behind x) t
stands_bytes t x s =
    let w = s.whole in
    let n = body_length x.kind in
    let after = drop (x.place + 1) t in
    drop_more t x.place 0 (omega arith)
    ∙ ap (λ v. v ∷ after) s.byte
    ∙ ap (λ v. kind_byte x.kind ∷ v) (sym (take-append-drop n after) ∙ ap (λ v. v ++ drop n after) (sym s.bytes) ∙ ap (λ v. x.body ++ v) (drop-drop n (x.place + 1) t))

not_nil : {X : Type 0} (x : X) (xs : List X) → x ∷ xs ≡ [] → ⊥
not_nil x xs e = let z : ◌≡◌ {A = ℕ} 0 1 = cc in omega arith

-- the contents of a regular tape from a place on, written one behind another
pub bytes_back : (t : List ℕ) {p : ℕ} {rs : List Part} {e : Ending} → From t p rs e → (xs : List Placed) → map part_of xs ≡ rs → e ≡ regular → tape_bytes (map content_of xs) ≡ drop p t
bytes_back t (at_end p h) [] q g = sym (drop_all p t (omega arith))
bytes_back t (at_end p h) (x ∷ xs) q g = absurd (not_nil (part_of x) (map part_of xs) q)
bytes_back t (at_unknown p u) xs q g = let z : ◌≡◌ {A = ℕ} 0 1 = cc in absurd (omega arith)
bytes_back t (at_cut p c) xs q g = let z : ◌≡◌ {A = ℕ} 0 1 = cc in absurd (omega arith)
bytes_back t (at_record p x rest e o s r) [] q g = absurd (not_nil x rest (sym q))
bytes_back t (at_record p x rest e o s r) (y ∷ ys) q g =
    let here : part_of y ≡ x = cc in
    let more : map part_of ys ≡ rest = cc in
    ap (λ v. (kind_byte v.kind ∷ v.body) ++ tape_bytes (map content_of ys)) here
    ∙ ap (λ v. (kind_byte x.kind ∷ x.body) ++ v) (bytes_back t r ys more g)
    ∙ sym (stands_bytes t x s)
    ∙ ap (λ v. drop v t) o

pub fit_placed : (p : ℕ) (cs : List Content) → AllFit cs → AllFit (map content_of (placed p cs))
fit_placed p [] h = tt
fit_placed p (c ∷ cs) h = (h.0, fit_placed (p + length (record_bytes c)) cs h.1)
