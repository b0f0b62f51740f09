-- The proof that a command brings: between its first `$=` and the first `$.` behind that (Metamath book, section 4.2.8).
use Rattle.std.specs.Prelude.{ℕ, suc, List, [], take, drop, position, Option, Some, None, codes}
use Rattle.mmtext.specs.Text.{Token}
use Rattle.spreading.specs.Words.{says}
use Rattle.spreading.specs.Forms.{Part}

-- the words up to the `$=`, with it; those of the proof; and those from the `$.` on
pub record Cut : Type 0 where
  pub front : List Token
  pub proof : List Token
  pub back : List Token

abbrev pub cut_behind : List Token → List Token → Option ℕ → Option Cut
cut_behind front ts None = None
cut_behind front ts (Some n) = Some (record { front = front; proof = take n ts; back = drop n ts })

abbrev pub cut_at : Part → Option ℕ → Option Cut
cut_at p None = None
cut_at p (Some n) = cut_behind (take (suc n) p) (drop (suc n) p) (position (λ t. says t (codes "$.")) (drop (suc n) p))

abbrev pub cut_of : Part → Option Cut
cut_of p = cut_at p (position (λ t. says t (codes "$=")) p)

-- the words of the proof, if the command brings one
abbrev pub words_cut : Option Cut → List Token
words_cut None = []
words_cut (Some c) = c.proof

abbrev pub brought : Part → List Token
brought p = words_cut (cut_of p)
