-- What is left to show of `is_mandatory`.
use Rattle.std.proofs.Common.{◌≡◌, ℕ, List, map, ap, sym, ◌∙◌}
use Rattle.std.specs.Prelude.{◌||◌}
use Rattle.std.specs.List.{list_any}
use Rattle.std.specs.Str.{bytes_eq}
use Rattle.std.specs.Borrow.{Bor}
use Rattle.source.specs.declared.contents.HypothesisWords.{HypothesisWords}
use Rattle.source.specs.Scopes.{is_in, stands_in}
use Rattle.source.specs.Views.{seen_words, seen_hypothesis}
use Rattle.source.proofs.Slices.{any_seen}
use Rattle.explaining.proofs.Lists.{any_mapped}
use Rattle.explaining.proofs.apart.is_mandatory.Goals as goal

pub returns-then-is_in : goal.returns-then-is_in
returns-then-is_in c =
    let w = c.args.word.now in
    let a = c.args.assertion.now in
    let in_statement : c.is_in.result ≡ is_in (seen_words a.statement.items) w =
    c.is_in.ensures ∙ ap (λ ws. list_any (λ (v : Bor (List ℕ)). bytes_eq w v.now) ws) c.as_slice.ensures.value
    ∙ any_seen (bytes_eq w) a.statement.items in
    c.if-is_in.true
    ∙ sym (ap (λ b. b || list_any (stands_in w) (map seen_hypothesis a.active.items)) (sym in_statement ∙ c.if-is_in.true))

pub returns-else-is_in : goal.returns-else-is_in
returns-else-is_in c =
    let w = c.args.word.now in
    let a = c.args.assertion.now in
    let in_statement : c.is_in.result ≡ is_in (seen_words a.statement.items) w =
    c.is_in.ensures ∙ ap (λ ws. list_any (λ (v : Bor (List ℕ)). bytes_eq w v.now) ws) c.as_slice.ensures.value
    ∙ any_seen (bytes_eq w) a.statement.items in
    c.is_mentioned.ensures
    ∙ ap (λ hs. list_any (λ (h : HypothesisWords). stands_in w (seen_hypothesis h)) hs) c.as_slice-else-is_in.ensures.value
    ∙ any_mapped (stands_in w) seen_hypothesis a.active.items
    ∙ sym (ap (λ b. b || list_any (stands_in w) (map seen_hypothesis a.active.items)) (sym in_statement ∙ c.if-is_in.false))
