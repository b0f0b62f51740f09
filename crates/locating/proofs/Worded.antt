-- The words of a text, as its reader answers.
use Rattle.std.proofs.Common.{◌≡◌, ◌≢◌, ◌∙◌, ℕ, List, Some, None, Result, Ok, Err, refl, sym, ap}
use Rattle.mmtext.specs.declared.fault.FaultKind.TheVariants.{NoMemory}
use Rattle.mmtext.specs.declared.fault.TextFault.{TextFault}
use Rattle.mmtext.specs.Text.{Token}
use Rattle.mmtext.specs.Languages.{reading}
use Rattle.mmtext.specs.Laws.{Says, IsRead}
use Rattle.mmtext.proofs.Readings.{reading_ok, reading_fault, fault_only}
use Rattle.locating.specs.Fronts.{outside_comments, said, words_of}

-- what is answered has no fault, and is said once
read_so : (text : List ℕ) (ts : List Token) → IsRead outside_comments (Says outside_comments) text (Ok ts)
    → reading outside_comments text ≡ Ok ts
read_so text ts h = go (reading outside_comments text) refl
  where
    go : (r : Result (List Token) TextFault) → reading outside_comments text ≡ r → reading outside_comments text ≡ Ok ts
    go (Ok us) e = let found = h.found in let other = reading_ok outside_comments text us e in
        let same : Ok us ≡ Ok ts = sym other.1 ∙ found.1 in e ∙ same
    go (Err f) e = absurd (h.refused f (reading_fault outside_comments text f e))

pub words_read : (text : List ℕ) (ts : List Token) → IsRead outside_comments (Says outside_comments) text (Ok ts) → Some ts ≡ words_of text
words_read text ts h = sym (ap said (read_so text ts h))

pub no_words : (text : List ℕ) (f : TextFault) → f.kind ≢ NoMemory → IsRead outside_comments (Says outside_comments) text (Err f)
    → None ≡ words_of text
no_words text f other h = sym (ap said (fault_only outside_comments text f (h.fault other)))
