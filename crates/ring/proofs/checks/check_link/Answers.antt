use Rattle.std.proofs.Common.{rules, Decides, inl, inr}
use Rattle.std.proofs.lemmas.Bool.Decides.{not_from_Decides}
use Rattle.std.proofs.lemmas.Iterator.{YieldsList-from_slice, cases_from_any}
use Rattle.trips.specs.Links.{SameLink}
use Rattle.ring.specs.Linked.{ends_of}
use Rattle.ring.specs.Faults.{Among}
use Rattle.ring.proofs.Firsts.{repeats_first, crosses_first, no_fault, crosses_left}
use Rattle.ring.proofs.Scans.{among_from_any}
use Rattle.ring.proofs.checks.check_link.Goals as goal

pub returns-then-not-conflicts_with_one_of : goal.returns-then-not-conflicts_with_one_of
returns-then-not-conflicts_with_one_of c areas later =
    let apart = not_from_Decides _ c.conflicts_with_one_of.ensures c.if-not-conflicts_with_one_of.true in
    no_fault c.args.n areas c.args.earlier.now later c.args.link
    (not_from_Decides _ c.has_bad_ends.ensures c.if-has_bad_ends.false)
    (λ w. apart (w.0, w.1, inl w.2))
    (λ w. apart (w.0, w.1, inr w.2))

pub returns-then-any : goal.returns-then-any
returns-then-any c areas later =
    let repeats : Decides c.any.result (Among SameLink (ends_of c.args.link) c.args.earlier.now)
    = among_from_any SameLink (ends_of c.args.link) c.args.earlier.now c.any.result
    (cases_from_any _ _ _ (λ x. SameLink (ends_of c.args.link) (ends_of x)) (λ x. SameLink (ends_of c.args.link) (ends_of x) → ⊥) c.any.ensures.ran (YieldsList-from_slice {s = c.iter.result} c.args.earlier.now cc) (λ x q k. search rules) (λ x q k. search rules)) in
    repeats_first c.args.n areas c.args.earlier.now later c.args.link
    (not_from_Decides _ c.has_bad_ends.ensures c.if-has_bad_ends.false)
    (repeats.0 c.if-any.true)

pub returns : goal.returns
returns c areas later =
    let repeats : Decides c.any.result (Among SameLink (ends_of c.args.link) c.args.earlier.now)
    = among_from_any SameLink (ends_of c.args.link) c.args.earlier.now c.any.result
    (cases_from_any _ _ _ (λ x. SameLink (ends_of c.args.link) (ends_of x)) (λ x. SameLink (ends_of c.args.link) (ends_of x) → ⊥) c.any.ensures.ran (YieldsList-from_slice {s = c.iter.result} c.args.earlier.now cc) (λ x q k. search rules) (λ x q k. search rules)) in
    let new = not_from_Decides _ repeats c.if-any.false in
    crosses_first c.args.n areas c.args.earlier.now later c.args.link
    (not_from_Decides _ c.has_bad_ends.ensures c.if-has_bad_ends.false)
    new
    (crosses_left (ends_of c.args.link) c.args.earlier.now new (c.conflicts_with_one_of.ensures.0 c.if-not-conflicts_with_one_of.false))
