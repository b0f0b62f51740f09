-- Which place a word names in another proof.
use Rattle.std.proofs.Common.{◌≡◌, ℕ, zero, suc, ◌-◌, Some, None, sym, ap, ◌∙◌, arith}
use Rattle.mmtext.specs.Words.{Word}
use Rattle.mmsyntax.specs.Dotted.{hypothesis_numbered}
use Rattle.mmsyntax.proofs.DottedWords.{numbered_is}
use Rattle.scripts.specs.Scripts.{counted_from_0}
use Rattle.scripts.specs.ScriptViews.{place_numbered}

pub none_placed : (label w : Word) → hypothesis_numbered label w ≡ None → None ≡ place_numbered label w
unfolding place_numbered
none_placed label w h = sym (ap counted_from_0 h)

pub some_placed : (label w : Word) (k : ℕ) → hypothesis_numbered label w ≡ Some k → Some (k - 1) ≡ place_numbered label w
unfolding place_numbered
some_placed label w zero h = let low = (numbered_is label w 0 h).0 in absurd (omega arith)
some_placed label w (suc k) h = ap (λ x. Some x) (let e : suc k - 1 ≡ k = omega arith in e) ∙ sym (ap counted_from_0 h)
