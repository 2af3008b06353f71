-- The pieces that hold a lane are its leaf piece and those above it.
-- Assumes the ends of a filled ring in preorder, a division of it, and a side that names its leaf piece.
use Rattle.std.proofs.Common.{ℕ, ◌+◌, ◌*◌, ◌<◌, List, sym, subst, inl, inr, ⊎_elim, arith}
use Rattle.records.specs.declared.Piece.{Piece}
use Rattle.pieces.specs.Sides.{Ends, span, Belongs}
use Rattle.pieces.specs.Holding.{piece_at, Holds, Above}
use Rattle.pieces.specs.Holding.Above.{parent, higher}
use Rattle.pieces.specs.Division.{Division}
use Rattle.pieces.specs.Holders.{LaneHoldersListed}
use Rattle.pieces.proofs.Places.{preorder}
use Rattle.pieces.proofs.Holders.{holders, way_up_stands, under_cut}
use Rattle.pieces.proofs.Geometry.{in_root}
use Rattle.pieces.proofs.Leaves.{belongs_once}

-- a piece on the way up from q has no higher number
no_higher : (n : ℕ) (e : Ends) (ps : List Piece) (d : Division n e ps) (p q : ℕ) → q + 5 < 2 * n → Above ps p q → p < q
no_higher n e ps d p q r (parent z f) = omega (arith, (under_cut n e ps d q z r).lower)
no_higher n e ps d p q r (higher {q = m} z f w) =
    let l = (under_cut n e ps d q z r).lower in omega (arith, no_higher n e ps d p m (omega arith) w)

-- the triangle that a side belongs to stands before it, or on it
triangle_range : (n : ℕ) (len : ℕ → ℕ) (i b : ℕ) → i + 3 < 2 * n → Belongs len i b → b + 3 < 2 * n
triangle_range n len i b r (inl h) = omega (arith, h.1)
triangle_range n len i b r (inr h) = ⊎_elim (λ s. omega arith) (λ s. omega arith) h.1.which

pub lane_holders : LaneHoldersListed
lane_holders n e ps fl d long i leaf f r m enough =
    let pre = preorder n e fl in
    let w = way_up_stands n e ps d long leaf f m.in_range enough in
    let once = λ (b : ℕ) (own : Belongs (span e) i b).
    belongs_once n (span e) pre i b m.triangle (in_root n e fl b (triangle_range n (span e) i b r own)) (in_root n e fl m.triangle (triangle_range n (span e) i m.triangle r m.belongs)) own m.belongs in
    let hold = holders n e ps d leaf m.triangle m.in_range m.uncut m.holds_it in
    record {
      at_most = w.at_most;
      all = λ p b rp own h. w.all_listed p ((hold p rp).0 (subst (Holds (span e) (piece_at ps p)) (once b own) h));
      only = λ p b own a.
          let o = w.listed_are p a in
          let rp : p + 5 < 2 * n = ⊎_elim (λ s. omega (arith, m.in_range)) (λ u. omega (arith, m.in_range, no_higher n e ps d p leaf m.in_range u)) o in
          subst (Holds (span e) (piece_at ps p)) (sym (once b own)) ((hold p rp).1 o);
    }
