-- What is left to show of `expression`.
use Rattle.std.proofs.Common.{◌≡◌, ◌<◌, ◌≤◌, ◌+◌, ◌++◌, ◌∷◌, ◌∙◌, [], refl, sym, ap, subst, length, ℕ, List, drop}
use Rattle.std.specs.Prelude.{Some}
use Rattle.std.proofs.lemmas.Result.{IfOk-from_err}
use Rattle.std.proofs.lemmas.List.{length-map, get_or-map}
use Rattle.std.specs.Borrow.{Bor}
use Rattle.mmsyntax.specs.declared.statement.Symbol.{Symbol}
use Rattle.source.specs.Views.{seen_words}
use Rattle.taking.specs.Says.{each}
use Rattle.taking.proofs.Symbols.{following, none_yet, each_more, each_none, each_all}
use Rattle.taking.proofs.says.expression.Goals as goal

pub loop-word-init : goal.loop-word-init
loop-word-init g c =
    let whole = each (g.P.SymbolPlaces.placed c.args.places.now) (seen_words c.args.words.now) in
    none_yet whole ∙ ap (λ xs. following xs whole) (sym c.new-symbols.ensures.items)

pub new-requires : goal.new-requires
new-requires g c = c.if-not-is_small.ensures.0 refl

pub returns-then-not-is_small : goal.returns-then-not-is_small
returns-then-not-is_small g c = tt

pub returns-in_err-push : goal.returns-in_err-push
returns-in_err-push g c = IfOk-from_err _ _ c.from_residual.ensures.0

pub loop-word-preserved : goal.loop-word-preserved
loop-word-preserved g c =
    let l = c.loop-word in
    let words = c.args.words.now in
    let placed = g.P.SymbolPlaces.placed c.args.places.now in
    let long : l.word-index < length (seen_words words) =
    subst (λ (n : ℕ). l.word-index < n) (sym (length-map words (λ (w : Bor (List ℕ)). w.now))) c.loop-word-test.true in
    let at = ap placed (get_or-map (λ (w : Bor (List ℕ)). w.now) words l.word-index _ [] c.loop-word-test.true) ∙ sym c.symbol.ensures in
    let pushed : c.push.new.self.items ≡ l.symbols.items ++ c.in-Some.symbol ∷ [] =
    c.in_ok-push.ensures.items ∙ ap (λ (x : Symbol). l.symbols.items ++ x ∷ []) c.new.ensures in
    l.invariant
    ∙ each_more placed (seen_words words) l.symbols.items l.word-index [] long c.in-Some.symbol (at ∙ c.in-Some.is)
    ∙ ap (λ xs. following xs (each placed (drop (l.word-index + 1) (seen_words words)))) (sym pushed)

pub returns-in_default : goal.returns-in_default
returns-in_default g c =
    let l = c.loop-word in
    let words = c.args.words.now in
    let placed = g.P.SymbolPlaces.placed c.args.places.now in
    let long : l.word-index < length (seen_words words) =
    subst (λ (n : ℕ). l.word-index < n) (sym (length-map words (λ (w : Bor (List ℕ)). w.now))) c.loop-word-test.true in
    let at = ap placed (get_or-map (λ (w : Bor (List ℕ)). w.now) words l.word-index _ [] c.loop-word-test.true) ∙ sym c.symbol.ensures in
    sym (l.invariant ∙ each_none placed (seen_words words) l.symbols.items l.word-index [] long (at ∙ c.in_default.is))

pub returns : goal.returns
returns g c =
    let l = c.loop-word in
    let long : length (seen_words c.args.words.now) ≤ l.word-index =
    subst (λ (n : ℕ). n ≤ l.word-index) (sym (length-map c.args.words.now (λ (w : Bor (List ℕ)). w.now))) c.loop-word-test.false in
    ap (λ x. Some x) c.from_vec.ensures
    ∙ sym (l.invariant ∙ each_all (g.P.SymbolPlaces.placed c.args.places.now) (seen_words c.args.words.now) l.symbols.items
    l.word-index long)
