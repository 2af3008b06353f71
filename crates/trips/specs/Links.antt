-- Terminals, links, and when two links cross.
-- Assumes nothing.
use Rattle.std.specs.Prelude.{◌≡◌, ℕ, ◌<◌, ◌⊎◌}

-- A terminal is a number, a vertex of the network.
abbrev pub Terminal : Type 0
Terminal = ℕ

-- A pair of terminals. It is a link, an undirected edge, where the two differ.
pub record Ends : Type 0 where
  pub from : Terminal
  pub to : Terminal

abbrev pub Link : Ends → Type 0
Link l = l.from ≡ l.to → ⊥

-- The two ends of a link can be named a and b, in either order.
abbrev pub Named : Ends → Terminal → Terminal → Type 0
Named l a b = ((l.from ≡ a) × (l.to ≡ b)) ⊎ ((l.from ≡ b) × (l.to ≡ a))

-- The ends of the one can be named a, b and those of the other c, d so that a < c < b < d.
pub record Straddles (one other : Ends) : Type 0 where
  pub a : Terminal
  pub b : Terminal
  pub c : Terminal
  pub d : Terminal
  pub ends : Named one a b
  pub other_ends : Named other c d
  pub a_c : a < c
  pub c_b : c < b
  pub b_d : b < d

-- Two links cross if, taken in either order, the first straddles the second.
abbrev pub Cross : Ends → Ends → Type 0
Cross l m = Straddles l m ⊎ Straddles m l

-- Two links are the same if they have the same two ends, in either order.
abbrev pub SameLink : Ends → Ends → Type 0
SameLink l m = Named l m.from m.to

-- Which link is named first makes no difference.
abbrev pub CrossingSymmetric : Type 0
CrossingSymmetric = (l m : Ends) → Cross l m → Cross m l
