use Rattle.std.proofs.Common.{◌≡◌, ◌*◌, ◌++◌, map, length, take, sym, ◌∙◌, ap, subst, arith, rules}
use Rattle.std.proofs.Math.Seq.{take-nil}
use Rattle.std.proofs.lemmas.List.{length-map}
use Rattle.slow.specs.Areas.{at}
use Rattle.slow.proofs.Clearing.{filled_with_none}
use Rattle.slow_quotes.proofs.held.empty_area.Goals as goal

pub returns : goal.returns
returns g c =
    let K = g.R.Rate.kind in
    let m = g.R.Rate.means in
    let written = c.in_ok-resize_with.ensures.items in
    let long : length c.resize_with.new.self.items ≡ c.args.n * c.args.n = omega (arith, c.in_ok-resize_with.ensures.len) in
    let fresh : c.resize_with.new.self.items ≡ written.0 =
    written.2 ∙ ap (λ list. take (c.args.n * c.args.n) list ++ written.0) c.new-area.ensures.items ∙ ap (λ list. list ++ written.0) (take-nil (c.args.n * c.args.n)) in
    record {
      square = λ few. length-map c.resize_with.new.self.items m ∙ long;
      empty = λ many. absurd (omega arith);
      holds_none = λ w. subst (λ list. at K (map m list) w ≡ K.none) (sym fresh)
          (filled_with_none K m _ (λ f x q s. search rules) written.0 _ _ written.3 w);
    }
