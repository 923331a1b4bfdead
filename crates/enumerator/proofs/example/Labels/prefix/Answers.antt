use Rattle.enumerator.proofs.example.Labels.prefix.Goals as goal

pub prefix_part-requires : goal.prefix_part-requires
prefix_part-requires c = record { labels_fit = c.args.self.fit; label_in_bounds = c.requires }
