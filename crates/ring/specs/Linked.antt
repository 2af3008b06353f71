-- The links of a plan: the ends of a link, and which terminals are linked.
-- Assumes nothing.
use Rattle.std.specs.Prelude.{ℕ, ◌<◌, false, ◌&&◌, ◌||◌, List, [], ◌∷◌, length, Decides, ◌==◌, slice_index_or}
use Rattle.trips.specs.Links.{Terminal, Ends, Named}
use Rattle.triangulation.specs.Filling.{Joins}
use Rattle.ring.specs.declared.Link.{Link}

abbrev pub ends_of : Link → Ends
ends_of l = record { from = l.from; to = l.to }

-- The link at an index, and its ends.
abbrev pub link_at : List Link → ℕ → Link
link_at links i = slice_index_or links i (record { from = 0; to = 0 })

abbrev pub ends_at : List Link → ℕ → Ends
ends_at links i = ends_of (link_at links i)

-- Some given link has the ends a and b, in either order.
abbrev pub Linked : List Link → Terminal → Terminal → Type 0
Linked links a b = (k : ℕ) × (k < length links) × Named (ends_at links k) a b

-- Two lists link the same terminals, in whatever order they name them.
abbrev pub SameLinks : List Link → List Link → Type 0
SameLinks links others = (a b : Terminal) → (Linked links a b → Linked others a b) × (Linked others a b → Linked links a b)

-- Linked terminals as a test.
abbrev pub joins : List Link → Joins
joins [] a b = false
joins (l ∷ links) a b = ((l.from == a && l.to == b) || (l.from == b && l.to == a)) || joins links a b

abbrev pub JoinsAreLinks : Type 0
JoinsAreLinks = (links : List Link) (a b : Terminal) → Decides (joins links a b) (Linked links a b)
