-- A division as text: the summary, the tree with one line for a piece, and why a plan is refused.
-- Assumes nothing: records of any content have a text.
use Rattle.std.specs.Prelude.{◌≡◌, ℕ, zero, suc, ◌+◌, List, [], ◌∷◌, ◌++◌, length, Some, None, Option, if◌then◌else◌, ◌==◌, nat_lt, codes, decimal, vec_len}
use Rattle.std.specs.List.{flat_map}
use Rattle.ring.specs.declared.Link.{Link}
use Rattle.ring.specs.declared.Side.{Side}
use Rattle.ring.specs.declared.PlanFault.{PlanFault}
use Rattle.ring.specs.Faults.{fault_number, faulty_link, reason}
use Rattle.ring.specs.Linked.{ends_at}
use Rattle.records.specs.declared.Piece.{Piece}
use Rattle.records.specs.Few.{listed}
use Rattle.pieces.specs.Sides.{ends_of, lengths}
use Rattle.pieces.specs.Cuts.{left, triangles}
use Rattle.plan_text.specs.declared.laid.Laid.{Laid}
use Rattle.plan_text.specs.Laid.{Deepest, MostHolders}

-- the two ends of a side
abbrev pub ends_text : List Side → ℕ → List ℕ
ends_text sides i = decimal ((ends_of sides).low i) ++ (codes "-" ++ decimal ((ends_of sides).high i))

-- terminals, each behind a blank
abbrev pub spaced : List ℕ → List ℕ
spaced xs = flat_map (λ x. codes " " ++ decimal x) xs

-- a piece's edge terminals, if it has any
abbrev pub edges_text : List ℕ → List ℕ
edges_text [] = []
edges_text (x ∷ xs) = codes ", edge terminals" ++ spaced (x ∷ xs)

-- the three terminals of the triangle on the side i: its ends, and between them the high end of its left child
abbrev pub triangle_text : List Side → ℕ → List ℕ
triangle_text sides i =
    decimal ((ends_of sides).low i) ++ (codes " " ++ (decimal ((ends_of sides).high (left i)) ++ (codes " " ++ decimal ((ends_of sides).high i))))

-- the one triangle of a piece that is not cut
abbrev pub single_text : List Side → ℕ → List ℕ
single_text sides i = codes "triangle " ++ triangle_text sides i

-- how many triangles a piece has, and its seam
abbrev pub divided_text : List Side → Piece → List ℕ
divided_text sides piece =
    decimal (triangles (lengths sides) (listed piece.holes) piece.top) ++ (codes " triangles, seam " ++ ends_text sides piece.seam)

-- what a piece is: its one triangle, or how many it has and its seam
abbrev pub content_text : List Side → Piece → List ℕ
content_text sides piece = if piece.first == 0 then single_text sides piece.top else divided_text sides piece

-- two blanks for each level
abbrev pub indent : ℕ → List ℕ
indent zero = []
indent (suc k) = indent k ++ codes "  "

-- what a piece's line says
abbrev pub line_text : List Side → ℕ → Piece → List ℕ
line_text sides number piece =
    codes "piece " ++ (decimal number ++ (codes ", level " ++ (decimal piece.level ++ (codes ": "
    ++ (content_text sides piece ++ (edges_text (listed piece.edges) ++ codes "\n"))))))

-- the line of a piece, two blanks in for each level
unfoldable pub piece_text : List Side → ℕ → Piece → List ℕ
piece_text sides number piece = indent piece.level ++ line_text sides number piece

-- the lines of pieces, the first of which has this number
abbrev pub lines_from : List Side → ℕ → List Piece → List ℕ
lines_from sides number [] = []
lines_from sides number (piece ∷ pieces) = piece_text sides number piece ++ lines_from sides (number + 1) pieces

-- the lines of all pieces, in order
abbrev pub tree_text : Laid → List ℕ
tree_text laid = lines_from laid.sides.items 0 laid.pieces.items

-- the line that counts pieces, levels and holders
abbrev pub summary_text : ℕ → ℕ → ℕ → List ℕ
summary_text pieces level holders =
    codes "pieces: " ++ (decimal pieces ++ (codes ", deepest level: " ++ (decimal level
    ++ (codes ", most pieces that hold one lane: " ++ (decimal holders ++ codes "\n")))))

-- the words are the summary of a plan: its number of pieces, their deepest level, and the most pieces that hold one lane
pub record SummaryText (laid : Laid) (words : List ℕ) : Type 0 where
  pub level : ℕ
  pub holders : ℕ
  pub deepest : Deepest laid.pieces.items level
  pub most : MostHolders laid.sides.items laid.pieces.items holders
  pub text : words ≡ summary_text (vec_len laid.pieces) level holders

-- the two ends of the link i, if there is such a link
abbrev pub link_ends_text : List Link → ℕ → List ℕ
link_ends_text links i =
    if nat_lt i (length links)
    then codes " (" ++ (decimal (ends_at links i).from ++ (codes " " ++ (decimal (ends_at links i).to ++ codes ")")))
    else []

-- which link it is, by its index and its ends
abbrev pub link_text : List Link → Option ℕ → List ℕ
link_text links None = []
link_text links (Some i) = codes "link " ++ (decimal i ++ (link_ends_text links i ++ codes ": "))

-- the line that says why a plan is refused
abbrev pub fault_text : List Link → PlanFault → List ℕ
fault_text links fault =
    codes "refused, number " ++ (decimal (fault_number fault) ++ (codes ": " ++ (link_text links (faulty_link fault) ++ (reason fault ++ codes "\n"))))
