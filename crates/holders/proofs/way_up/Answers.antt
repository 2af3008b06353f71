use Rattle.std.proofs.Common.{◌≡◌, ℕ, suc, ◌+◌, ◌-◌, ◌<◌, ◌++◌, length, take, drop, set, sym, ap, ◌∙◌, subst, arith, length-take}
use Rattle.std.proofs.lemmas.List.{append-nil, take-append-le, length-set}
use Rattle.pieces.specs.Holders.{way_up, climbs}
use Rattle.pieces.specs.Holding.{piece_at}
use Rattle.holders.specs.Walks.{Walked}
use Rattle.holders.proofs.Steps.{some_climbs, none_climbs, on_more, on_stop, behind_more, rejoined, walked_up}
use Rattle.holders.proofs.way_up.Goals as goal

pub returns-in-None : goal.returns-in-None
returns-in-None c =
    let ps = c.args.pieces.now in
    let k = c.loop-k.k in
    let p = c.loop-k.p in
    let most = c.min-most.result in
    let stop = none_climbs (climbs ps p) (piece_at ps p).parent c.in-None.ensures in
    let room : k < length c.loop-k.place-items = omega arith in
    let one : most - k ≡ suc (most - (k + 1)) = omega (arith, length-take most c.args.out.now) in
    let so = ap (λ (f : ℕ). take k c.loop-k.place-items ++ way_up ps f p) (sym one) ∙ c.loop-k.invariant.0 in
    let out = c.args.out.now in
    let front = set c.loop-k.place-items k p in
    let long : length front ≡ most = omega (arith, length-take most out, length-set c.loop-k.place-items k p) in
    let w : Walked ps c.args.from out (k + 1) (front ++ drop most out) =
    record {
      numbers = take-append-le (k + 1) front (drop most out) (omega arith) ∙ on_stop ps c.loop-k.place-items k p room (most - (k + 1)) (way_up ps most c.args.from) stop so ∙ ap (λ (f : ℕ). way_up ps f c.args.from) c.min-most.ensures;
      behind = rejoined most (k + 1) out front (omega arith) long (omega arith) (behind_more ps c.loop-k.place-items k p room (take most out) c.loop-k.invariant.1);
      inside = omega arith;
      at_most = omega arith;
    } in
    record { walked = w; complete = walked_up ps c.args.from out (k + 1) (front ++ drop most out) w }

pub loop-k-preserved : goal.loop-k-preserved
loop-k-preserved c =
    let ps = c.args.pieces.now in
    let k = c.loop-k.k in
    let p = c.loop-k.p in
    let most = c.min-most.result in
    let up = some_climbs (climbs ps p) c.in-Some.parent (piece_at ps p).parent c.in-Some.ensures in
    let room : k < length c.loop-k.place-items = omega arith in
    let one : most - k ≡ suc (most - (k + 1)) = omega (arith, length-take most c.args.out.now) in
    let so = ap (λ (f : ℕ). take k c.loop-k.place-items ++ way_up ps f p) (sym one) ∙ c.loop-k.invariant.0 in (
      on_more ps c.loop-k.place-items k p room (most - (k + 1)) c.in-Some.parent (way_up ps most c.args.from) up.0 up.1 so,
      behind_more ps c.loop-k.place-items k p room (take most c.args.out.now) c.loop-k.invariant.1,
    )

pub returns : goal.returns
returns c =
    let ps = c.args.pieces.now in
    let k = c.loop-k.k in
    let most = c.min-most.result in
    let out = c.args.out.now in
    let front = c.loop-k.place-items in
    let long : length front ≡ most = omega (arith, length-take most out) in
    let at : k ≡ most = omega (arith, long) in
    let none : 0 ≡ most - k = omega (arith, at) in
    let w : Walked ps c.args.from out most (front ++ drop most out) =
    record {
      numbers =
          take-append-le most front (drop most out) (omega arith)
          ∙ ap (λ (m : ℕ). take m front) (sym at)
          ∙ sym (append-nil (take k front))
          ∙ ap (λ (f : ℕ). take k front ++ way_up ps f c.loop-k.p) none
          ∙ c.loop-k.invariant.0
          ∙ ap (λ (f : ℕ). way_up ps f c.args.from) c.min-most.ensures;
      behind = rejoined most most out front (omega arith) long (omega arith) (subst (λ (m : ℕ). drop m front ≡ drop m (take most out)) at c.loop-k.invariant.1);
      inside = omega arith;
      at_most = omega arith;
    } in
    record { walked = w; complete = walked_up ps c.args.from out most (front ++ drop most out) w }
