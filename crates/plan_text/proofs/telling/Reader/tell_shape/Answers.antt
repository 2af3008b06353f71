use Rattle.std.proofs.Common.{◌++◌, codes, refl, append_assoc}
use Rattle.plan_text.proofs.Texts.{GrownBy-append, GrownBy-same, on_ok}
use Rattle.plan_text.proofs.telling.Reader.tell_shape.Goals as goal

pub returns-clause-told : goal.returns-clause-told
returns-clause-told c =
    let line = c.args.line.now in
    let one = c.args.self.now.text in
    let two = c.end_plan.new.self.text in
    let four = c.tell.new.text in
    let ended = c.in_ok-end_plan.ensures.told in
    on_ok c.tell.result c.tell.ensures (λ told. (
      ended.0 ++ (line ++ (codes ": " ++ told.0)),
      (
        record {
          ended = ended.0;
          links = c.in_ok-shape_links.field-0.items;
          told = told.0;
          end = ended.1.0;
          drawn = c.in_ok-shape_links.ensures;
          plan = told.1.0;
          all = refl;
        },
        GrownBy-append one two four ended.0 (line ++ (codes ": " ++ told.0)) ended.1.1
            (GrownBy-same two four _ (line ++ (codes ": " ++ told.0)) (GrownBy-append two c.write.new.self four _ _ c.in_ok-write.ensures.bytes told.1.1) (simp append_assoc)),
      ),
    ))
