-- Of the code's inside, apart from the rules: how contracts see the parts of a script, and what can't be in them.
use Rattle.std.specs.Prelude.{◌≡◌, ℕ, List, [], take, drop, Option, Some, None, if◌then◌else◌}
use Rattle.mmtext.specs.Text.{Token}
use Rattle.mmtext.specs.Words.{Word}
use Rattle.mmtext.specs.Views.{seen}
use Rattle.source.specs.Scopes.{Assertion}
use Rattle.spreading.specs.Forms.{Part}
use Rattle.spreading.specs.Spreading.{Star, Misfit, unknown, numbered, not_alone, cites}
use Rattle.spreading.specs.declared.star.Star.{Star as CodeStar}
use Rattle.spreading.specs.declared.misfit.Misfit.{Misfit as CodeMisfit}
use Rattle.spreading.specs.declared.misfit.Misfit.TheVariants as misfit

-- the words of a part in front of those that say where something is put, and these with what is behind them
abbrev pub front_words : Option ℕ → Part → List Token
front_words None p = p
front_words (Some n) p = take n p

abbrev pub place_words : Option ℕ → Part → List Token
place_words None p = []
place_words (Some n) p = drop n p

-- what can't be in a part
abbrev pub seen_misfit : CodeMisfit → Misfit
seen_misfit (misfit.Unknown t) = unknown (seen t)
seen_misfit (misfit.Numbered t) = numbered (seen t)
seen_misfit (misfit.NotAlone t) = not_alone (seen t)

-- the words of `replace *`
abbrev pub seen_star : CodeStar → Star
seen_star x = record { verb = seen x.verb; star = seen x.star; old = seen x.old; new = seen x.new }

-- the label of an assertion whose proof names another
abbrev pub citer : Word → Assertion → Option Word
citer w a = if cites w a.proof then Some a.label else None
