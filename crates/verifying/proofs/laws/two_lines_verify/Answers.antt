-- The example `two_lines_verify` computes.
use Rattle.std.specs.Prelude.{refl}
use Rattle.mmtext.specs.Text.{tokens_from, mark_of}
use Rattle.mmtext.specs.Languages.{token_reading, run, step}
use Rattle.source.specs.Letters.{decoded}
use Rattle.source.specs.Faults.{row}
use Rattle.verifying.proofs.laws.two_lines_verify.Goals as goal

pub returns : goal.returns
unfolding tokens_from mark_of token_reading run step decoded row
returns c = ((tt, ((λ f. refl), tt)), refl)
