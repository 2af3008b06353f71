use Rattle.quoting.proofs.climbs.line_at.Goals as goal

pub returns : goal.returns
returns g c n m h l t =
    let b = c.start_below-start.ensures n (h.stands.filled, h.stands.division) l t in
    c.climb_to.ensures n m c.args.u h b.reaches (c.first_line.ensures n m h b.reaches.in_range b.line_there)
