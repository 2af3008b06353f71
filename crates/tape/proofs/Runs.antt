-- A run of the reader: what it has shown so far, followed by the meaning of what is left, is the tape's meaning.
-- Assumes what one call of the reader shows.
use Rattle.std.proofs.Common.{◌≡◌, ℕ, List, [], ◌∷◌, ◌++◌, length, Some, None, Ok, Err, Option, Result, sym, ap, ◌∙◌, subst}
use Rattle.std.proofs.lemmas.List.{append_assoc, append-nil}
use Rattle.tape.specs.declared.records.Record.{Record}
use Rattle.tape.specs.declared.faults.TapeFault.{TapeFault}
use Rattle.tape.specs.declared.faults.Reason.{Reason}
use Rattle.tape.specs.declared.faults.Reason.TheVariants.{UnknownKind, CutShort, OutOfTurn, PlanTooLarge, TapeTooLong}
use Rattle.tape.specs.Tape.{Part, Ending, regular, faulty, From, at_end, at_unknown, at_cut, at_record, Means}
use Rattle.tape.specs.Reads.{part, WrongAt, Faulted, Shown, NextIs, ItemIs}

-- the records before a place
pub record Before (t : List ℕ) (p : ℕ) (shown : List Part) : Type 0 where
  pub goes_on : (rs : List Part) (e : Ending) → From t p rs e → Means t (shown ++ rs) e

pub one_more : (t : List ℕ) (p q : ℕ) (shown : List Part) (x : Part) → Before t p shown → Shown t p x q → Before t q (shown ++ x ∷ [])
one_more t p q shown x b s =
    record {
      goes_on = λ rs e m.
          subst (λ v. Means t v e) (sym (append_assoc shown (x ∷ []) rs))
          (b.goes_on (x ∷ rs) e (at_record p x rs e s.place s.stands (subst (λ v. From t v rs e) s.next m)));
    }

pub all_before : (t : List ℕ) (p : ℕ) (shown : List Part) → Before t p shown → p ≡ length t → Means t shown regular
all_before t p shown b e = subst (λ v. Means t v regular) (append-nil shown) (b.goes_on [] regular (at_end p e))

-- the reader's two faults
wrong_from : (t : List ℕ) (p : ℕ) (r : Reason) → WrongAt t p r → From t p [] (faulty (record { reason = r; place = p }))
wrong_from t p UnknownKind w = at_unknown p w
wrong_from t p CutShort w = at_cut p w
wrong_from t p OutOfTurn w = absurd w
wrong_from t p PlanTooLarge w = absurd w
wrong_from t p TapeTooLong w = absurd w

pub fault_before : (t : List ℕ) (p q : ℕ) (shown : List Part) (f : TapeFault) → Before t p shown → Faulted t p f q → Means t shown (faulty f)
fault_before t p q shown f b w =
    subst (λ v. Means t v (faulty f)) (append-nil shown)
    (b.goes_on [] (faulty f)
    (subst (λ v. From t p [] (faulty (record { reason = f.reason; place = v }))) (sym w.place) (wrong_from t p f.reason w.wrong)))

-- what a call answers, where it shows a record
pub shows_record : (t u : List ℕ) (p q : ℕ) (o : Option Record) (r : Record) → u ≡ t → o ≡ Some r → NextIs u p (Ok o) q → Shown t p (part r) q
shows_record t u p q o r e is n = subst (λ v. Shown v p (part r) q) e (subst (λ v. NextIs u p (Ok v) q) is n)

-- what an item is, of the tape t that the reader's own is
module _ (t u : List ℕ) (p q : ℕ) (o : Option (Result Record TapeFault)) (same : u ≡ t) (item : ItemIs u p o q) where
  pub item_record : (i : Result Record TapeFault) (r : Record) → o ≡ Some i → i ≡ Ok r → Shown t p (part r) q
  item_record i r is ok = subst (λ v. Shown v p (part r) q) same (subst (λ v. ItemIs u p v q) (is ∙ ap Some ok) item)

  pub item_fault : (i : Result Record TapeFault) (f : TapeFault) → o ≡ Some i → i ≡ Err f → Faulted t p f q
  item_fault i f is err = subst (λ v. Faulted v p f q) same (subst (λ v. ItemIs u p v q) (is ∙ ap Some err) item)

  pub item_none : o ≡ None → p ≡ length t
  item_none is = (subst (λ v. ItemIs u p v q) is item).0 ∙ ap length same
