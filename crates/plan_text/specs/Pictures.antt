-- The picture of a divided ring: where it puts the terminals, and its text.
-- Assumes the deepest level of `Laid`; n is the number of terminals.
use Rattle.std.specs.Prelude.{◌≡◌, ℕ, ◌+◌, ◌-◌, ◌*◌, ◌/◌, ◌%◌, ◌≤◌, min, Bool, ◌||◌, ◌==◌, nat_lt, if◌then◌else◌, ◌⊎◌, List, [], ◌∷◌, ◌++◌, slice_index_or, codes, decimal}
use Rattle.std.specs.List.{flat_map, range_with_len}
use Rattle.ring.specs.Areas.{side_at}
use Rattle.records.specs.declared.Piece.{Piece}
use Rattle.ring.specs.declared.Side.{Side}
use Rattle.plan_text.specs.declared.laid.Laid.{Laid}
use Rattle.plan_text.specs.declared.picture.Point.{Point}
use Rattle.plan_text.specs.Laid.{Deepest}

-- half a turn, in tenths of a degree
abbrev pub half_turn : ℕ
half_turn = 1800

-- the radius of the circle that the terminals stand on
abbrev pub radius : ℕ
radius = 300

-- the room between the circle and the edges of the picture
abbrev pub margin : ℕ
margin = 60

-- The sine of an angle of at most half a turn h, times the radius, by the fraction 16 p / (5 h h - 4 p), where p is the
-- angle times what it lacks to half a turn.
abbrev pub sine : ℕ → ℕ
sine angle = let product = angle * (half_turn - angle) in product * (16 * radius) / (5 * half_turn * half_turn - product * 4)

-- the radius and the sine of any angle together: in the second half of a turn the sine is taken away
abbrev pub wave : ℕ → ℕ
wave angle =
    let part = angle % (2 * half_turn) in
    if nat_lt part half_turn then radius + sine part else (radius - sine (part - half_turn))

-- the angle from the top, clockwise, at which a terminal of a ring of n stands
abbrev pub angle_of : ℕ → ℕ → ℕ
angle_of n terminal = terminal * 2 * half_turn / n

-- the point of the circle at an angle from the top, clockwise; points are counted from the upper left corner of the picture
abbrev pub circle_point : ℕ → Point
circle_point angle = record { x = wave angle + margin; y = 2 * radius + margin - wave (angle + half_turn / 2) }

-- where a terminal of a ring of n stands
unfoldable pub point_at : ℕ → ℕ → Point
point_at n terminal = circle_point (angle_of n terminal)

-- a point is in the picture, and no nearer to its edges than the margin
pub record InMargins (p : Point) : Type 0 where
  pub left : margin ≤ p.x
  pub right : p.x ≤ margin + 2 * radius
  pub top : margin ≤ p.y
  pub bottom : p.y ≤ margin + 2 * radius

-- how far from the centre a point is, to the right or left, or up or down
abbrev pub from_centre : ℕ → ℕ
from_centre a = let centre = margin + radius in (a - centre) + (centre - a)

-- the square of a point's distance from the centre
abbrev pub square_distance : Point → ℕ
square_distance p = from_centre p.x * from_centre p.x + from_centre p.y * from_centre p.y

-- a point is on the circle, or at most 2 inside it
pub record NearCircle (p : Point) : Type 0 where
  pub inner : (radius - 2) * (radius - 2) ≤ square_distance p
  pub outer : square_distance p ≤ radius * radius

-- how far apart the ends of a side are; 0 if they stand the wrong way round
abbrev pub apart : Side → ℕ
apart side = side.high - side.low

-- the ends are neighbours on a ring of n: one terminal and the next, or the first and the last
abbrev pub Neighbours : ℕ → Side → Type 0
Neighbours n side = (apart side ≡ 1) ⊎ (apart side + 1 ≡ n)

-- the same as a test
abbrev pub are_neighbours : ℕ → Side → Bool
are_neighbours n side = (apart side == 1) || (apart side + 1 == n)

-- how a side is drawn: a link boldly, a ring side plainly, a side of the fill broken
abbrev pub style_text : ℕ → Side → List ℕ
style_text n side =
    if side.link then codes "stroke=\"#000\" stroke-width=\"2.5\""
    else (if are_neighbours n side then codes "stroke=\"#000\" stroke-width=\"1\""
    else codes "stroke=\"#666\" stroke-width=\"1\" stroke-dasharray=\"5 4\"")

-- the colours of the levels, which come again after eight
abbrev pub colours : List (List ℕ)
colours = codes "#d62728" ∷ codes "#ff7f0e" ∷ codes "#e6c700" ∷ codes "#2ca02c" ∷ codes "#17becf" ∷ codes "#1f77b4" ∷ codes "#9467bd" ∷ codes "#e377c2" ∷ []

-- the colour of the seams at a level
abbrev pub colour_text : ℕ → List ℕ
colour_text level = slice_index_or colours (level % 8) []

-- a number, with the text before it and after it
abbrev pub told : List ℕ → ℕ → List ℕ → List ℕ
told before number after = before ++ (decimal number ++ after)

-- a line from one point to another, in a style
unfoldable pub line_text : Point → Point → List ℕ → List ℕ
line_text from to style =
    told (codes "<line x1=\"") from.x (codes "\" ") ++ told (codes "y1=\"") from.y (codes "\" ")
    ++ told (codes "x2=\"") to.x (codes "\" ") ++ told (codes "y2=\"") to.y (codes "\" ") ++ style ++ codes "/>\n"

-- a broad line from one point to another, in a colour
unfoldable pub broad_line_text : Point → Point → List ℕ → List ℕ
broad_line_text from to colour =
    codes "<g stroke-width=\"9\" stroke-opacity=\"0.7\" stroke=\"" ++ colour ++ codes "\">" ++ line_text from to [] ++ codes "</g>\n"

-- the seam of a piece, as a broad line between the places of its ends, in the colour of the piece's level
abbrev pub seam_text : ℕ → List Side → Piece → List ℕ
seam_text n sides piece =
    let seam = side_at sides piece.seam in
    broad_line_text (point_at n seam.low) (point_at n seam.high) (colour_text piece.level)

-- a piece that is cut has a seam; a piece of one triangle has none
abbrev pub cut_text : ℕ → List Side → Piece → List ℕ
cut_text n sides piece = if nat_lt 0 piece.first then seam_text n sides piece else []

-- a side, between the places of its ends, in its style
abbrev pub side_text : ℕ → Side → List ℕ
side_text n side = line_text (point_at n side.low) (point_at n side.high) (style_text n side)

-- a terminal at its place, as a circle with the terminal's number in it
unfoldable pub mark_text : Point → ℕ → List ℕ
mark_text at terminal =
    told (codes "<circle r=\"11\" fill=\"#fff\" stroke=\"#000\" cx=\"") at.x (codes "\" ") ++ told (codes "cy=\"") at.y (codes "\"/>\n")
    ++ told (codes "<text text-anchor=\"middle\" x=\"") at.x (codes "\" ") ++ told (codes "y=\"") (at.y + 4) (codes "\">")
    ++ told [] terminal (codes "</text>\n")

-- a terminal of a ring of n
abbrev pub terminal_text : ℕ → ℕ → List ℕ
terminal_text n terminal = mark_text (point_at n terminal) terminal

-- the line of the legend for a level that has this colour, each 18 below the one before
unfoldable pub key_text : ℕ → List ℕ → List ℕ
key_text level colour =
    told (codes "<text x=\"8\" y=\"") (level * 18 + 20) (codes "\" fill=\"") ++ colour
    ++ told (codes "\">seams at level ") level (codes "</text>\n")

-- the same in the colour of the level
abbrev pub legend_text : ℕ → List ℕ
legend_text level = key_text level (colour_text level)

-- the head, with the corners of what is shown, in a picture of this width and height
unfoldable pub sized_head_text : ℕ → List ℕ
sized_head_text size =
    told (codes "<svg xmlns=\"http://www.w3.org/2000/svg\" font-family=\"sans-serif\" font-size=\"12\" viewBox=\"0 0 ") size (codes " ")
    ++ told [] size (codes "\">\n")

-- the head of the picture, which has the circle and the room around it
abbrev pub head_text : List ℕ
head_text = sized_head_text (2 * radius + 2 * margin)

-- the seams of the pieces that are cut, in the order of the pieces
abbrev pub seams_text : ℕ → List Side → List Piece → List ℕ
seams_text n sides pieces = flat_map (cut_text n sides) pieces

abbrev pub sides_text : ℕ → List Side → List ℕ
sides_text n sides = flat_map (side_text n) sides

-- the terminals from 0 on, of which no more than 4,096 are drawn
abbrev pub terminals_text : ℕ → List ℕ
terminals_text n = flat_map (terminal_text n) (range_with_len 0 (min n 4096))

-- the legend of the levels below one
abbrev pub legends_text : ℕ → List ℕ
legends_text level = flat_map legend_text (range_with_len 0 level)

-- the whole picture, with a legend of the levels below one
abbrev pub picture_text : Laid → ℕ → List ℕ
picture_text laid level =
    head_text ++ seams_text laid.terminals laid.sides.items laid.pieces.items ++ sides_text laid.terminals laid.sides.items
    ++ terminals_text laid.terminals ++ legends_text level ++ codes "</svg>\n"

-- the text of the picture of a divided ring: the legend has a line for each level before the deepest, since only those have seams
abbrev pub PictureText : Laid → List ℕ → Type 0
PictureText laid words = (level : ℕ) × Deepest laid.pieces.items level × (words ≡ picture_text laid level)
