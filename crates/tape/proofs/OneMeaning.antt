-- Any tape has one meaning.
-- Assumes nothing.
use Rattle.std.proofs.Common.{◌≡◌, ℕ, zero, suc, ◌+◌, ◌<◌, ◌≤◌, List, [], ◌∷◌, length, get_or, take, drop, sym, refl, ap, ◌∙◌, subst, inl, inr, arith}
use Rattle.std.proofs.lemmas.Bool.{cases_lt}
use Rattle.tape.specs.declared.kinds.Kind.{Kind}
use Rattle.tape.specs.declared.faults.Reason.TheVariants.{UnknownKind, CutShort}
use Rattle.tape.specs.Kinds.{kind_byte, body_length, Unknown}
use Rattle.tape.specs.Tape.{Part, behind, Stands, CutAt, Ending, regular, fault, From, at_end, at_unknown, at_cut, at_record}
use Rattle.tape.specs.Laws.{Meaning}
use Rattle.tape.proofs.KindBytes.{same_kind, tell_kind}

module _ (t : List ℕ) where
  -- What stands at one place: two of end, unknown kind, cut record and whole record never stand together.
  not_behind : (p : ℕ) (x : Part) → x.place ≡ p → Stands t x → p ≡ length t → ⊥
  not_behind p x e s h = let w = s.whole in omega arith

  not_known : (p : ℕ) (x : Part) → x.place ≡ p → Stands t x → Unknown (get_or t p 0) → ⊥
  not_known p x e s u = u x.kind (sym s.byte ∙ ap (λ q. get_or t q 0) e)

  not_cut : (p : ℕ) (x : Part) → x.place ≡ p → Stands t x → CutAt t p → ⊥
  not_cut p x e s c =
      let k = same_kind (get_or t p 0) x.kind c.kind (ap (λ q. get_or t q 0) (sym e) ∙ s.byte) c.byte in
      let l = ap body_length k in
      let w = s.whole in
      let m = c.missing in
      omega arith

  same_part : (p : ℕ) (x y : Part) → x.place ≡ p → y.place ≡ p → Stands t x → Stands t y → x ≡ y
  same_part p x y e f s u =
      let k : x.kind ≡ y.kind = same_kind (get_or t p 0) x.kind y.kind (ap (λ q. get_or t q 0) (sym e) ∙ s.byte) (ap (λ q. get_or t q 0) (sym f) ∙ u.byte) in
      let q : x.place ≡ y.place = e ∙ sym f in
      let b : x.body ≡ y.body =
      s.bytes ∙ ap (λ v. take (body_length v) (drop (x.place + 1) t)) k ∙ ap (λ v. take (body_length y.kind) (drop (v + 1) t)) q ∙ sym u.bytes in
      ap (λ v. record { kind = v; place = x.place; body = x.body }) k
      ∙ ap (λ v. record { kind = y.kind; place = v; body = x.body }) q
      ∙ ap (λ v. record { kind = y.kind; place = y.place; body = v }) b

  pub alone : {p : ℕ} {rs qs : List Part} {e f : Ending} → From t p rs e → From t p qs f → (rs ≡ qs) × (e ≡ f)
  alone (at_end p h) (at_end _ g) = (refl, refl)
  alone (at_end p h) (at_unknown _ u) = let i = u.inside in absurd (omega arith)
  alone (at_end p h) (at_cut _ c) = let i = c.inside in absurd (omega arith)
  alone (at_end p h) (at_record _ x rest e q s r) = absurd (not_behind p x q s h)
  alone (at_unknown p u) (at_end _ g) = let i = u.inside in absurd (omega arith)
  alone (at_unknown p u) (at_unknown _ v) = (refl, refl)
  alone (at_unknown p u) (at_cut _ c) = absurd (u.unknown c.kind (sym c.byte))
  alone (at_unknown p u) (at_record _ x rest e q s r) = absurd (not_known p x q s u.unknown)
  alone (at_cut p c) (at_end _ g) = let i = c.inside in absurd (omega arith)
  alone (at_cut p c) (at_unknown _ u) = absurd (u.unknown c.kind (sym c.byte))
  alone (at_cut p c) (at_cut _ d) = (refl, refl)
  alone (at_cut p c) (at_record _ x rest e q s r) = absurd (not_cut p x q s c)
  alone (at_record p x rest e q s r) (at_end _ g) = absurd (not_behind p x q s g)
  alone (at_record p x rest e q s r) (at_unknown _ u) = absurd (not_known p x q s u.unknown)
  alone (at_record p x rest e q s r) (at_cut _ c) = absurd (not_cut p x q s c)
  alone (at_record p x rest e q s r) (at_record _ y more f o u m) =
      let same = same_part p x y q o s u in
      let both = alone r (subst (λ v. From t (behind v) more f) (sym same) m) in
      (ap (λ v. v ∷ rest) same ∙ ap (λ v. y ∷ v) both.0, both.1)

  record Found (p : ℕ) : Type 0 where
    records : List Part
    ending : Ending
    is : From t p records ending

  -- one step: at the end, at a fault, or at a record with what is found behind it
  whole_or_cut : (p : ℕ) (k : Kind) → p < length t → get_or t p 0 ≡ kind_byte k → ((x : Part) → x.place ≡ p → Stands t x → Found (behind x)) → Found p
  whole_or_cut p k h b go = elim (cases_lt (length t) (p + 1 + body_length k)) [
    | inl short ↦ record { records = []; ending = fault CutShort p; is = at_cut p (record { inside = h; kind = k; byte = b; missing = short }) }
    | inr long ↦
        let x : Part = record { kind = k; place = p; body = take (body_length k) (drop (p + 1) t) } in
        let s : Stands t x = record { byte = b; whole = long; bytes = refl } in
        let f = go x refl s in
        record { records = x ∷ f.records; ending = f.ending; is = at_record p x f.records f.ending refl s f.is }
  ]

  step : (p : ℕ) → p ≤ length t → ((x : Part) → x.place ≡ p → Stands t x → Found (behind x)) → Found p
  step p h go = elim (cases_lt p (length t)) [
    | inl inside ↦ elim (tell_kind (get_or t p 0)) [
      | inl k ↦ whole_or_cut p k.0 inside k.1 go
      | inr u ↦ record { records = []; ending = fault UnknownKind p; is = at_unknown p (record { inside = inside; unknown = u }) }
    ]
    | inr past ↦ record { records = []; ending = regular; is = at_end p (omega arith) }
  ]

  -- each record takes a byte at least, so there are no more turns than bytes
  turns : (n p : ℕ) → p ≤ length t → length t < p + n → Found p
  turns zero p h l = absurd (omega arith)
  turns (suc n) p h l = step p h (λ x e s. let w = s.whole in turns n (behind x) (omega arith) (omega arith))

  pub meaning : Meaning t
  meaning =
      let f = turns (length t + 1) 0 (omega arith) (omega arith) in
      record { records = f.records; ending = f.ending; means = f.is; alone = λ rs e m. alone m f.is }
