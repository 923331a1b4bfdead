use Rattle.enumerator.proofs.example.Labels.cursor.Goals as goal

pub cursor_part-requires : goal.cursor_part-requires
cursor_part-requires c = c.args.self.fit
