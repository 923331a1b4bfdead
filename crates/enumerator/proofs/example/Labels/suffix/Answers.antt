use Rattle.enumerator.proofs.example.Labels.suffix.Goals as goal

pub suffix_part-requires : goal.suffix_part-requires
suffix_part-requires c = record { labels_fit = c.args.self.fit; label_in_bounds = c.requires }
