use Rattle.std.proofs.Common.{◌≡◌, ◌+◌, ◌-◌, ◌<◌, [], ◌∷◌, ◌++◌, length, get_or, take, refl, subst, arith}
use Rattle.std.proofs.lemmas.List.{take_more, get_or_default}
use Rattle.stack.proofs.Stack.pop.Goals as goal

pub returns : goal.returns
returns g c =
    let k = c.args.self.now.len in
    let xs = c.args.self.now.items.now in
    let x = c.index-self-self.result in
    let less : k - 1 < length xs = omega (arith, c.args.self.now.fits) in
    let one : k - 1 + 1 ≡ k = omega arith in
    record {
      popped = record {
        shorter = one;
        same = refl;
        stood = λ d. get_or_default xs (k - 1) x d less;
        above = subst (λ m. take m xs ≡ take (k - 1) xs ++ get_or xs (k - 1) x ∷ []) one (take_more xs (k - 1) x less);
      };
      held = refl;
    }
