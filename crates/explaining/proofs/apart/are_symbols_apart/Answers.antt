-- What is left to show of `are_symbols_apart`.
use Rattle.std.proofs.Common.{◌≡◌, ℕ, true, List, sym, ap, ◌∙◌}
use Rattle.std.specs.Prelude.{◌&&◌}
use mathlib.Core.Bool.{not}
use Rattle.std.specs.List.{list_any}
use Rattle.std.specs.Str.{bytes_eq}
use Rattle.std.specs.Borrow.{Bor}
use Rattle.source.specs.Scopes.{Pair}
use Rattle.source.specs.Views.{seen_pairs}
use Rattle.verifying.specs.Citations.{is_pair_of}
use Rattle.explaining.proofs.Lists.{any_mapped}
use Rattle.explaining.proofs.apart.are_symbols_apart.Goals as goal

pub returns-then-ne : goal.returns-then-ne
returns-then-ne c =
    let u = c.args.first.now in
    let v = c.args.second.now in
    let paired = list_any (is_pair_of u v) (seen_pairs c.args.theorem.now.pairs.items) in
    let differ : not (bytes_eq u v) ≡ true = sym c.ne.ensures ∙ c.if-ne.true in
    c.are_paired.ensures
    ∙ ap (λ ps. list_any (λ (p : Bor (List ℕ) × Bor (List ℕ)). is_pair_of u v (p.0.now, p.1.now)) ps) c.as_slice.ensures.value
    ∙ any_mapped {B = Pair} (is_pair_of u v) (λ (p : Bor (List ℕ) × Bor (List ℕ)). (p.0.now, p.1.now)) c.args.theorem.now.pairs.items
    ∙ sym (ap (λ b. b && paired) differ)
