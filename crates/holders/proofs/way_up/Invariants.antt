use Rattle.std.proofs.Common.{◌≡◌, ◌-◌, ◌++◌, take, drop}
use Rattle.pieces.specs.Holders.{way_up}
use Rattle.holders.proofs.way_up.Given as goal

-- what is written and what is left of the way up are together the whole way
abbrev pub invariant-loop-k : goal.invariant-loop-k
invariant-loop-k l =
    (take l.k l.place-items ++ way_up l.pieces (l.most - l.k) l.p ≡ way_up l.pieces l.most l.from)
    × (drop l.k l.place-items ≡ drop l.k l.initial.place-items)
