-- Two contents with the same kind and the same bytes are one content.
-- Each field can be got back from its bytes, so the whole content can.
-- Assumes that each field fits its width.
use Rattle.std.proofs.Common.{◌≡◌, ℕ, ◌+◌, ◌*◌, ◌/◌, ◌%◌, ◌^◌, ◌<◌, List, [], ◌∷◌, map, get_or, ℤ, pos, negsuc, sym, refl, ap, ◌∙◌, arith, w32, SFits, to_z}
use Rattle.std.proofs.lemmas.Int.{to_z-of_z}
use Rattle.tape.specs.declared.kinds.Kind.{Kind}
use Rattle.tape.specs.declared.contents.Ends.{Ends}
use Rattle.tape.specs.declared.contents.LaneRate.{LaneRate}
use Rattle.tape.specs.declared.contents.HeadFields.{HeadFields}
use Rattle.tape.specs.declared.contents.Content.{Content}
use Rattle.tape.specs.declared.contents.Content.TheVariants.{Head, Link, PlanEnd, Post, Shut, Try, Keep, Withdraw, Quote, Route}
use Rattle.tape.specs.declared.contents.Placed.{Placed}
use Rattle.tape.specs.Contents.{bits, ends_bytes, lane_bytes, head_bytes, kind_of, body_of}
use Rattle.tape.specs.Tape.{Part}
use Rattle.tape.specs.Laws.{EndsFit, LaneFits, HeadFits, Fits, AllFit, part_of, content_of}
use Rattle.tape.proofs.BigEndian.{bits_is}

abbrev of_two : ℕ → ℕ → ℕ
of_two a b = a * 256 + b

abbrev of_four : ℕ → ℕ → ℕ → ℕ → ℕ
of_four a b c d = a * 16777216 + b * 65536 + c * 256 + d

two_again : (n : ℕ) → n < 2 ^ 16 → of_two (n / 256 % 256) (n % 256) ≡ n
two_again n h = omega arith

four_again : (n : ℕ) → n < 2 ^ 32 → of_four (n / 16777216 % 256) (n / 65536 % 256) (n / 256 % 256) (n % 256) ≡ n
four_again n h =
    let second : n / 65536 ≡ n / 256 / 256 = omega arith in
    let third : n / 16777216 ≡ n / 256 / 256 / 256 = omega arith in
    let small : n / 16777216 % 256 ≡ n / 16777216 = omega arith in
    omega arith

bits_fit : (z : ℤ) → SFits w32 z → bits z < 2 ^ 32
bits_fit (pos n) h = let s = h.sfits in omega arith
bits_fit (negsuc n) h = omega arith

signed_again : (z : ℤ) → SFits w32 z → to_z w32 (of_four (bits z / 16777216 % 256) (bits z / 65536 % 256) (bits z / 256 % 256) (bits z % 256)) ≡ z
signed_again z h = ap (to_z w32) (four_again (bits z) (bits_fit z h) ∙ bits_is z) ∙ to_z-of_z w32 z h

-- the fields back from the bytes
ends_from : List ℕ → Ends
ends_from b = record { from = of_two (get_or b 0 0) (get_or b 1 0); to = of_two (get_or b 2 0) (get_or b 3 0) }

lane_from : List ℕ → LaneRate
lane_from b =
    record {
      ends = ends_from b;
      cents = to_z w32 (of_four (get_or b 4 0) (get_or b 5 0) (get_or b 6 0) (get_or b 7 0));
      tonnes = of_four (get_or b 8 0) (get_or b 9 0) (get_or b 10 0) (get_or b 11 0);
    }

head_from : List ℕ → HeadFields
head_from b =
    record {
      rate_kind = get_or b 0 0;
      book = of_four (get_or b 1 0) (get_or b 2 0) (get_or b 3 0) (get_or b 4 0);
      terminals = of_two (get_or b 5 0) (get_or b 6 0);
      meter = of_four (get_or b 7 0) (get_or b 8 0) (get_or b 9 0) (get_or b 10 0);
    }

content_from : Kind → List ℕ → Content
content_from Kind.Head b = Head (head_from b)
content_from Kind.Link b = Link (ends_from b)
content_from Kind.PlanEnd b = PlanEnd
content_from Kind.Post b = Post (lane_from b)
content_from Kind.Shut b = Shut (ends_from b)
content_from Kind.Try b = Try (lane_from b)
content_from Kind.Keep b = Keep
content_from Kind.Withdraw b = Withdraw
content_from Kind.Quote b = Quote (ends_from b)
content_from Kind.Route b = Route (ends_from b)

ends_again : (e : Ends) → EndsFit e → ends_from (ends_bytes e) ≡ e
unfolding ends_from
ends_again e h =
    ap (λ v. record { from = v; to = of_two (e.to / 256 % 256) (e.to % 256) }) (two_again e.from h.from)
    ∙ ap (λ v. record { from = e.from; to = v }) (two_again e.to h.to)

lane_again : (l : LaneRate) → LaneFits l → lane_from (lane_bytes l) ≡ l
unfolding lane_from ends_from
lane_again l h =
    let n = l.tonnes in
    let t = of_four (n / 16777216 % 256) (n / 65536 % 256) (n / 256 % 256) (n % 256) in
    let z = bits l.cents in
    ap (λ v. record { ends = v; cents = to_z w32 (of_four (z / 16777216 % 256) (z / 65536 % 256) (z / 256 % 256) (z % 256)); tonnes = t }) (ends_again l.ends h.ends)
    ∙ ap (λ v. record { ends = l.ends; cents = v; tonnes = t }) (signed_again l.cents h.cents)
    ∙ ap (λ v. record { ends = l.ends; cents = l.cents; tonnes = v }) (four_again n h.tonnes)

head_again : (g : HeadFields) → HeadFits g → head_from (head_bytes g) ≡ g
unfolding head_from
head_again g h =
    let n = g.terminals in
    let m = g.meter in
    ap (λ v. record { rate_kind = g.rate_kind; book = v; terminals = of_two (n / 256 % 256) (n % 256); meter = of_four (m / 16777216 % 256) (m / 65536 % 256) (m / 256 % 256) (m % 256) }) (four_again g.book h.book)
    ∙ ap (λ v. record { rate_kind = g.rate_kind; book = g.book; terminals = v; meter = of_four (m / 16777216 % 256) (m / 65536 % 256) (m / 256 % 256) (m % 256) }) (two_again n h.terminals)
    ∙ ap (λ v. record { rate_kind = g.rate_kind; book = g.book; terminals = n; meter = v }) (four_again m h.meter)

content_again : (c : Content) → Fits c → content_from (kind_of c) (body_of c) ≡ c
unfolding content_from
content_again (Head g) h = ap Head (head_again g h)
content_again (Link e) h = ap Link (ends_again e h)
content_again PlanEnd h = refl
content_again (Post l) h = ap Post (lane_again l h)
content_again (Shut e) h = ap Shut (ends_again e h)
content_again (Try l) h = ap Try (lane_again l h)
content_again Keep h = refl
content_again Withdraw h = refl
content_again (Quote e) h = ap Quote (ends_again e h)
content_again (Route e) h = ap Route (ends_again e h)

-- the content with its place, back from the part of a tape
placed_from : Part → Placed
placed_from x = record { place = x.place; content = content_from x.kind x.body }

placed_again : (x : Placed) → Fits x.content → placed_from (part_of x) ≡ x
unfolding placed_from
placed_again x h = ap (λ v. record { place = x.place; content = v }) (content_again x.content h)

pub same_placed : (xs ys : List Placed) → AllFit (map content_of xs) → AllFit (map content_of ys) → map part_of xs ≡ map part_of ys → xs ≡ ys
same_placed xs ys g h e = sym (all_again xs g) ∙ ap (map placed_from) e ∙ all_again ys h
  where
    all_again : (zs : List Placed) → AllFit (map content_of zs) → map placed_from (map part_of zs) ≡ zs
    all_again [] h = refl
    all_again (z ∷ zs) h = ap (λ v. v ∷ map placed_from (map part_of zs)) (placed_again z h.0) ∙ ap (λ v. z ∷ v) (all_again zs h.1)
