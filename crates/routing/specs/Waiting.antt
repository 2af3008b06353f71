-- Parts that wait on a list: which they are, the next one first, and what putting more on it does.
-- Assumes nothing: a list is an area's values and the number of them in use, the last of which is next.
use Rattle.std.specs.Prelude.{◌≡◌, ℕ, zero, suc, ◌+◌, ◌≤◌, List, [], ◌∷◌, length, slice_index_or, IsOk, Result}
use Rattle.stack.specs.declared.Stack.{Stack}
use Rattle.unfolding.specs.Parts.{Part, kept}
use Rattle.routing.specs.declared.waiting.RoutePart.{RoutePart}
use Rattle.routing.specs.declared.waiting.Parts.{Parts}
use Rattle.routing.specs.declared.waiting.Parts.TheVariants.{Within, Across, Round}

abbrev pub part_of : RoutePart → Part
part_of p = record { piece = p.piece; from = p.from; to = p.to }

abbrev pub no_part : RoutePart
no_part = record { piece = 0; from = 0; to = 0 }

-- the parts that wait, the next one first
abbrev pub waiting : ℕ → List RoutePart → List Part
waiting zero items = []
waiting (suc k) items = part_of (slice_index_or items k no_part) ∷ waiting k items

abbrev pub parts_on : Stack RoutePart → List Part
parts_on list = waiting list.len list.items.now

-- how many parts there is room for
abbrev pub room_on : Stack RoutePart → ℕ
room_on list = length list.items.now

-- the parts of a split before others; those whose ends are the same are left out
abbrev pub kept_all : Parts → List Part → List Part
kept_all (Within p) rest = kept (part_of p) rest
kept_all (Across p q) rest = kept (part_of p) (kept (part_of q) rest)
kept_all (Round p q r) rest = kept (part_of p) (kept (part_of q) (kept (part_of r) rest))

-- a part was put on the list, if there was room for one
pub record Put {F : Type 0} (r : Result Unit F) (list : Stack RoutePart) (p : RoutePart) (list' : Stack RoutePart) : Type 0 where
  pub same_room : room_on list' ≡ room_on list
  pub answer : list.len + 1 ≤ room_on list → IsOk r
  pub waits : list.len + 1 ≤ room_on list → parts_on list' ≡ kept (part_of p) (parts_on list)
  pub at_most : list'.len ≤ list.len + 1

-- the parts of a split were put on the list, if there was room for three
pub record AllPut {F : Type 0} (r : Result Unit F) (list : Stack RoutePart) (ps : Parts) (list' : Stack RoutePart) : Type 0 where
  pub same_room : room_on list' ≡ room_on list
  pub answer : list.len + 3 ≤ room_on list → IsOk r
  pub wait : list.len + 3 ≤ room_on list → parts_on list' ≡ kept_all ps (parts_on list)
  pub at_most : list'.len ≤ list.len + 3
