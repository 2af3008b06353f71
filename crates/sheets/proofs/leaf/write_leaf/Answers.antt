use Rattle.std.proofs.Common.{◌≡◌, ℕ, ◌<◌, ◌++◌, map, length, get_or, drop, ap, ◌∙◌, arith, rules, length-take}
use Rattle.std.proofs.lemmas.List.{get_or_append_left, length-map, map-append}
use Rattle.std.proofs.lemmas.Slice.{drop-append-drop}
use Rattle.records.specs.Few.{listed}
use Rattle.pieces.specs.Sides.{ends_of}
use Rattle.piece_rates.specs.Leaves.{LanesWithin}
use Rattle.piece_rates.proofs.Leaves.{leaf_shows, leaf_lanes_held}
use Rattle.sheets.specs.Triangles.{triangle_lanes, triangle_place}
use Rattle.sheets.proofs.Reading.{place_means}
use Rattle.sheets.proofs.Leaves.{read_as, places_are_sheet}
use Rattle.sheets.proofs.leaf.write_leaf.Goals as goal

pub returns-clause-kept : goal.returns-clause-kept
returns-clause-kept g c = drop-append-drop 64 c.args.sheet.now c.write_each.new.area 64 (omega arith) (omega (arith, c.write_each.auto.area, length-take 64 c.args.sheet.now))

pub returns-clause-shows : goal.returns-clause-shows
returns-clause-shows g c n lanes l h =
    let K = g.R.Rate.kind in
    let X = g.met.R.Rate.laws in
    let m = g.R.Rate.means in
    let t = c.on-t.result in
    let P = c.args.piece in
    let e = ends_of c.args.sides.now in
    let area = map m c.args.lanes.now in
    let front = c.write_each.new.area in
    let behind = drop 64 c.args.sheet.now in
    let sheet = map m (front ++ behind) in
    let size : length front ≡ 64 = omega (arith, c.write_each.auto.area, length-take 64 c.args.sheet.now) in
    let small : LanesWithin K (triangle_lanes K m t) =
    read_as K e P.top area t.low t.third t.high (m t.left.up) (m t.left.down) (m t.right.up) (m t.right.down) (m t.base.up) (m t.base.down)
    c.on-t.ensures (λ a b c' l'. LanesWithin K l') (leaf_lanes_held K X n e lanes P area h).1 in
    let places : (k : ℕ) → k < length front → get_or (map m front) k K.none ≡ triangle_place K m t (listed P.edges) k =
    place_means K X m front c.write_each.ensures (triangle_place K m t (listed P.edges)) (λ k v l' post. search rules) in
    leaf_shows K X n e lanes P area sheet h
    (places_are_sheet K e P area sheet t.low t.third t.high (m t.left.up) (m t.left.down) (m t.right.up) (m t.right.down) (m t.base.up) (m t.base.down)
    c.on-t.ensures (omega (arith, c.len-count.ensures.is, c.len-count.ensures.few))
    (λ k b. ap (λ v. get_or v k K.none) (map-append m front behind)
    ∙ get_or_append_left (map m front) (map m behind) K.none k (omega (arith, length-map front m))
    ∙ places k (omega arith)))
