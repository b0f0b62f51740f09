-- What is left to show of `is_dotted_among`.
use Rattle.std.proofs.Common.{◌≡◌, ◌∙◌, true, false, sym, ap, rules}
use Rattle.std.specs.Prelude.{◌&&◌}
use Rattle.mmsyntax.specs.Dotted.{is_dotted, trunk}
use Rattle.source.specs.Scopes.{is_in}
use Rattle.sites.proofs.Flags.{dotted_among}
use Rattle.sites.proofs.changes.is_dotted_among.Goals as goal

pub returns-then-is_dotted : goal.returns-then-is_dotted
returns-then-is_dotted c = λ ls h.
    let w = c.args.label.now in
    let yes : c.is_dotted.result ≡ true = search rules in
    let dotted : is_dotted (trunk w) w ≡ true = ap (λ t. is_dotted t w) (sym c.trunk-front.ensures) ∙ sym c.is_dotted.ensures ∙ yes in
    c.contains.ensures
    ∙ h c.trunk-front.result.now
    ∙ ap (is_in ls) c.trunk-front.ensures
    ∙ ap (λ b. b && is_in ls (trunk w)) (sym dotted)
    ∙ dotted_among w ls

pub returns-else-is_dotted : goal.returns-else-is_dotted
returns-else-is_dotted c = λ ls h.
    let w = c.args.label.now in
    let no : c.is_dotted.result ≡ false = search rules in
    let dotted : is_dotted (trunk w) w ≡ false = ap (λ t. is_dotted t w) (sym c.trunk-front.ensures) ∙ sym c.is_dotted.ensures ∙ no in
    no ∙ ap (λ b. b && is_in ls (trunk w)) (sym dotted) ∙ dotted_among w ls
