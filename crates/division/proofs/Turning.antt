-- One turn on plain values: from what the pop, the cut and the two pushes promise to what the turn does.
-- Assumes nothing.
use Rattle.std.proofs.Common.{◌≡◌, ℕ, zero, suc, ◌+◌, ◌*◌, ◌<◌, ◌≤◌, List, length, get_or, set, Ok, Result, Some, Option, sym, refl, ap, ◌∙◌, subst, ⊎_elim, arith}
use Rattle.std.proofs.lemmas.List.{length-set}
use Rattle.std.proofs.lemmas.Bool.{cases_lt}
use Rattle.records.specs.declared.Piece.{Piece}
use Rattle.stack.specs.Moves.{TakenOff, Popped, PutOn}
use Rattle.pieces.specs.Sides.{Ends, span, Filled}
use Rattle.pieces.proofs.Waiting.{UnderWay, few_wait, turn_leaf, turn_node, begins}
use Rattle.pieces.specs.Cuts.{whole, size, single}
use Rattle.pieces.specs.Order.{first_of, second_of, cut_record}
use Rattle.division.specs.declared.Undivided.{Undivided}
use Rattle.division.specs.Turns.{BothWait, Turn, Fitting}

-- a pop that was not refused
pub taken : (o : Option Piece) (P : Piece) (k : ℕ) (ts : List Piece) (k₁ : ℕ) (ts₁ : List Piece) → o ≡ Some P → Popped o k ts k₁ ts₁ → TakenOff k ts P k₁ ts₁
taken o P k ts k₁ ts₁ is off = subst (λ (x : Option Piece). Popped x k ts k₁ ts₁) is off

module _ (e : Ends) (p : ℕ) (ts : List Piece) (k : ℕ) (P : Piece) (k₁ : ℕ) (ts₁ : List Piece) (off : TakenOff k ts P k₁ ts₁) where
  next_is : (j : ℕ) → k ≡ suc j → (k₁ ≡ j) × (P ≡ get_or ts j whole)
  next_is j q = let h : k₁ ≡ j = omega (arith, off.shorter) in (h, off.stood whole ∙ ap (λ i. get_or ts i whole) h)

  pub turn_uncut : (t : ℕ) (D : Piece) → t ≡ size (span e) P → t ≤ 1 → D ≡ single e P → Turn e p ts k (Ok tt) D ts₁ k₁
  turn_uncut t D is one made =
      record {
        uncut = λ j q _.
            let h = next_is j q in
            record { answer = refl; record_is = made ∙ ap (single e) h.1; list = off.same; waiting = h.0 };
        cut = λ j q _ two. let h = next_is j q in absurd (omega (arith, is, ap (size (span e)) h.1));
      }

  -- with both parts on the list the record is D; without room nothing is said
  pub turn_cut : {F : Type 0} (t : ℕ) (D A B : Piece) (both : Result Unit F) (r : Result Unit Undivided) (k₂ : ℕ) (ts₂ : List Piece)
      → t ≡ size (span e) P → 1 < t → D ≡ cut_record e p P → A ≡ first_of (span e) p P → B ≡ second_of (span e) p P
      → BothWait both k₁ ts₁ A B k₂ ts₂ → (both ≡ Ok tt → r ≡ Ok tt) → Turn e p ts k r D ts₂ k₂
  turn_cut t D A B both r k₂ ts₂ is many made first second wait done =
      record {
        uncut = λ j q one. let h = next_is j q in absurd (omega (arith, is, ap (size (span e)) h.1));
        cut = λ j q wide _.
            let h = next_is j q in
            let room : suc k₁ < length ts₁ = omega (arith, h.0, ap length off.same) in
            let f = first ∙ ap (first_of (span e) p) h.1 in
            let s = second ∙ ap (second_of (span e) p) h.1 in
            record {
              answer = done (wait.answer room);
              record_is = made ∙ ap (cut_record e p) h.1;
              list = wait.list room
                  ∙ ap (λ us. set (set us k₁ B) (suc k₁) A) off.same
                  ∙ ap (λ i. set (set ts i B) (suc i) A) h.0
                  ∙ ap (λ x. set (set ts j x) (suc j) A) s
                  ∙ ap (set (set ts j (second_of (span e) p (get_or ts j whole))) (suc j)) f;
              waiting = wait.waiting room ∙ ap (λ i. suc (suc i)) h.0;
            };
      }

-- with nothing on the list there is nothing to say
pub turn_none : (e : Ends) (p : ℕ) (ts : List Piece) (k : ℕ) (r : Result Unit Undivided) (P' : Piece) (ts' : List Piece) (k' : ℕ) → k ≡ 0 → Turn e p ts k r P' ts' k'
turn_none e p ts k r P' ts' k' none =
    record {
      uncut = λ j q _. absurd (omega arith);
      cut = λ j q _ _. absurd (omega arith);
    }

-- what a turn leaves of a division that is under way: the record D is written, and it is still under way
pub record StillUnderWay (n : ℕ) (e : Ends) (p : ℕ) (ps : List Piece) (r : Result Unit Undivided) (ts' : List Piece) (k' : ℕ) (D : Piece) : Type 0 where
  pub answer : r ≡ Ok tt
  pub list_room : 64 ≤ length ts'
  pub under_way : UnderWay n e (p + 1) (set ps p D) ts' k'

-- a turn keeps the division under way
pub turned : (n : ℕ) (e : Ends) → Filled n e → (p : ℕ) (ps ts : List Piece) (k : ℕ) (r : Result Unit Undivided) (P' : Piece) (ts' : List Piece) (k' : ℕ) → Turn e p ts k r P' ts' k' → p + 5 < 2 * n → p < length ps → 64 ≤ length ts → UnderWay n e p ps ts k → StillUnderWay n e p ps r ts' k' P'
turned n e fl p ps ts zero r P' ts' k' t missing room wide u = absurd (omega (arith, u.line))
turned n e fl p ps ts (suc j) r P' ts' k' t missing room wide u =
    let P = get_or ts j whole in
    let few = few_wait n e fl ts (suc j) p u.line in
    ⊎_elim
    (λ two.
    let d = t.cut j refl (omega arith) two in
    let A = first_of (span e) p P in
    let B = second_of (span e) p P in
    record {
      answer = d.answer;
      list_room = omega (arith, ap length d.list, length-set (set ts j B) (suc j) A, length-set ts j B);
      under_way = subst (λ us. UnderWay n e (p + 1) (set ps p P') us k') (sym d.list)
          (subst (UnderWay n e (p + 1) (set ps p P') (set (set ts j B) (suc j) A)) (sym d.waiting)
          (subst (λ x. UnderWay n e (p + 1) (set ps p x) (set (set ts j B) (suc j) A) (suc (suc j))) (sym d.record_is)
          (turn_node n e fl p ps ts j P refl room u two (omega arith))));
    })
    (λ one.
    let d = t.uncut j refl one in
    record {
      answer = d.answer;
      list_room = omega (arith, ap length d.list);
      under_way = subst (λ us. UnderWay n e (p + 1) (set ps p P') us k') (sym d.list)
          (subst (UnderWay n e (p + 1) (set ps p P') ts) (sym d.waiting)
          (subst (λ x. UnderWay n e (p + 1) (set ps p x) ts j) (sym d.record_is)
          (turn_leaf n e fl p ps ts j P refl room u one)));
    })
    (cases_lt 1 (size (span e) P))

-- the whole plan alone on the list
pub begun : (n : ℕ) (e : Ends) → Filled n e → (ps ts : List Piece) (k : ℕ) (P : Piece) (k' : ℕ) (ts' : List Piece) → k ≡ 0 → P ≡ whole → PutOn k ts P k' ts' → UnderWay n e 0 ps ts' k'
begun n e fl ps ts k P k' ts' none is put =
    let one : 1 ≡ k' = omega (arith, put.longer) in
    let list : set ts 0 whole ≡ ts' = ap (set ts 0) (sym is) ∙ ap (λ i. set ts i P) (sym none) ∙ sym put.written in
    subst (UnderWay n e 0 ps ts') one (subst (λ us. UnderWay n e 0 ps us 1) list (begins n e fl ps ts (omega (arith, put.room))))

pub refit : (n : ℕ) (e : Ends) (count : ℕ) (ts ts₀ : List Piece) (k : ℕ) (P : Piece) (k' : ℕ) (ts' : List Piece) → ts ≡ ts₀ → PutOn k ts P k' ts' → Fitting n e count ts₀ → Fitting n e count ts'
refit n e count ts ts₀ k P k' ts' same put f =
    record { filled = f.filled; pieces = f.pieces; list_room = omega (arith, f.list_room, ap length same, ap length put.written, length-set ts k P) }
