-- What is left to show of `is_unfinished`.
use Rattle.std.proofs.Common.{◌∙◌, List, ℕ, sym, ap}
use Rattle.std.specs.Prelude.{◌==◌}
use Rattle.std.specs.List.{list_any}
use Rattle.std.specs.Borrow.{Bor}
use Rattle.source.specs.Scopes.{is_unknown}
use Rattle.source.specs.Proofs.{is_unfinished}
use Rattle.source.specs.Views.{seen_proof}
use Rattle.source.proofs.Slices.{any_seen}
use Rattle.taking.proofs.counting.is_unfinished.Goals as goal

pub returns-in-Normal : goal.returns-in-Normal
returns-in-Normal c =
    c.has_unknown.ensures
    ∙ ap (list_any (λ (w : Bor (List ℕ)). is_unknown w.now)) c.as_slice.ensures.value
    ∙ any_seen is_unknown c.in-Normal.words.items
    ∙ sym (ap (λ p. is_unfinished (seen_proof p)) c.in-Normal.is)

pub returns-in-Compressed : goal.returns-in-Compressed
returns-in-Compressed c =
    c.has_unknown_letter.ensures
    ∙ ap (list_any (λ (w : Bor (List ℕ)). list_any (λ b. b == 63) w.now)) c.as_slice-in-Compressed.ensures.value
    ∙ any_seen (list_any (λ b. b == 63)) c.in-Compressed.letters.items
    ∙ sym (ap (λ p. is_unfinished (seen_proof p)) c.in-Compressed.is)
