-- What is left to show of `is_among`.
use Rattle.std.proofs.Common.{◌≡◌, ◌∙◌, ℕ, true, false, List, [], ◌∷◌, Bor, refl, sym, ap, arith}
use Rattle.std.specs.Prelude.{◌||◌}
use Rattle.std.specs.List.{list_any}
use Rattle.std.specs.Str.{bytes_eq}
use Rattle.std.proofs.lemmas.Grind.{common_steps}
use Rattle.source.specs.Views.{seen_words}
use Rattle.scopes.proofs.faults.is_among.Goals as goal

among_seen : (w : List ℕ) (ws : List (Bor (List ℕ))) → list_any (bytes_eq w) (seen_words ws) ≡ list_any (λ b. bytes_eq w b.now) ws
among_seen w [] = refl
among_seen w (b ∷ bs) = ap (λ t. bytes_eq w b.now || t) (among_seen w bs)

pub returns-then-eq : goal.returns-then-eq
returns-then-eq c =
    let any : list_any (λ b. bytes_eq c.args.word.now b.now) c.args.words.now ≡ true = grind (arith, common_steps) in
    sym (among_seen c.args.word.now c.args.words.now ∙ any)

pub returns : goal.returns
returns c =
    let any : list_any (λ b. bytes_eq c.args.word.now b.now) c.args.words.now ≡ false = grind (arith, common_steps) in
    sym (among_seen c.args.word.now c.args.words.now ∙ any)
