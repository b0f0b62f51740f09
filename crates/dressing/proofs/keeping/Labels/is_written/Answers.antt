-- What is left to show of `is_written`.
use Rattle.std.proofs.Common.{◌∙◌}
use Rattle.std.specs.Str.{bytes_eq}
use Rattle.source.proofs.Slices.{any_seen}
use Rattle.dressing.proofs.keeping.Labels.is_written.Goals as goal

pub returns : goal.returns
returns g c = c.is_among.ensures ∙ any_seen (bytes_eq c.args.label.now) c.args.self.now.written.now
