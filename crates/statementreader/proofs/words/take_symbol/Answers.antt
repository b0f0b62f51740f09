-- What is left to show of `take_symbol`.
use Rattle.std.proofs.Common.{◌≡◌, ◌∙◌, Ok, Err, length, sym, ap, arith}
use Rattle.mmsyntax.specs.Rows.{symbol_of}
use Rattle.mmtext.specs.Views.{seen}
use Rattle.statementreader.proofs.TakenWords.{kept_plain, kept_symbol, taken_item, refused_item}
use Rattle.statementreader.proofs.words.take_symbol.Goals as goal

pub symbol_named-requires : goal.symbol_named-requires
symbol_named-requires c = (c.at-known.ensures c.args.symbols.now c.args.token.text.now c.in_ok-place.ensures.found).1.symbol

pub returns-in_ok-push-in-Ok-clause-taken : goal.returns-in_ok-push-in-Ok-clause-taken
returns-in_ok-push-in-Ok-clause-taken c =
    let t = c.args.symbols.now in
    let w = c.args.token.text.now in
    let r = c.at-known.result.now in
    let old = c.args.expression.now.items in
    let kept = c.at-known.ensures t w c.in_ok-place.ensures.found in
    let none = c.if-known.false in
    let count : length old ≡ c.len.result = omega arith in
    let given : symbol_of t (length old) w ≡ Ok c.in-Ok.symbol =
    ap (λ n. symbol_of t n w) count ∙ kept_symbol t w r c.len.result kept none ∙ sym c.symbol_named.ensures ∙ c.in-Ok.is in
    taken_item (seen c.args.token) old c.push.new.self.items (symbol_of t (length old) w) c.in-Ok.symbol (kept_plain t w r kept none) given
    c.in_ok-push-in-Ok.ensures.items

pub returns-in-Err-clause-taken : goal.returns-in-Err-clause-taken
returns-in-Err-clause-taken c =
    let t = c.args.symbols.now in
    let w = c.args.token.text.now in
    let r = c.at-known.result.now in
    let old = c.args.expression.now.items in
    let kept = c.at-known.ensures t w c.in_ok-place.ensures.found in
    let none = c.if-known.false in
    let count : length old ≡ c.len.result = omega arith in
    let given : symbol_of t (length old) w ≡ Err c.in-Err.kind =
    ap (λ n. symbol_of t n w) count ∙ kept_symbol t w r c.len.result kept none ∙ sym c.symbol_named.ensures ∙ c.in-Err.is in
    refused_item (seen c.args.token) old old (symbol_of t (length old) w) c.in-Err.kind c.fault_at.result (kept_plain t w r kept none) given
    c.fault_at.ensures
