-- Tokens that lead through the rows of a script are its words.
use Rattle.std.proofs.Common.{◌≡◌, ◌≢◌, ℕ, zero, suc, ◌<◌, Bool, true, false, cond, List, [], ◌∷◌, ◌++◌, length, Result, Ok, refl, sym, ap, subst}
use Rattle.std.proofs.Common.{◌∙◌, arith, append_assoc, append-nil}
use Rattle.std.specs.Prelude.{codes}
use Rattle.std.specs.Str.{bytes_eq}
use Rattle.mmtext.specs.declared.fault.FaultKind.TheVariants.{BadToken}
use Rattle.mmtext.specs.declared.fault.TextFault.{TextFault}
use Rattle.mmtext.specs.Text.{Token}
use Rattle.mmtext.specs.Comments.{words_of}
use Rattle.mmtext.specs.Languages.{fault}
use Rattle.walks.proofs.Walks.{walk, walk_none, walk_cons, same_word}
use Rattle.mmsyntax.specs.Tables.{Tables}
use Rattle.scripts.specs.Scripts.{SpellsEach, SpellsTransaction}
use Rattle.scripts.specs.ScriptFaults.{Place, outermost, at_command, within, Progress, at, script_language}
use Rattle.scripts.proofs.ScriptRows.{Script, progress}
use Rattle.scripts.proofs.ScriptWords.{asking, asks}
use Rattle.scripts.proofs.CommandParsed.{IsApart, reads_commands}

-- the transactions of which these are the words, behind those of s
pub record ReadsTransactions (t : Tables) (s : Script) (ts : List Token) (final : Progress) : Type 0 where
  pub script : Script
  pub transactions : SpellsEach (SpellsTransaction t) script (words_of ts)
  pub whole : final.script ≡ s ++ script

cond_ok : (b : Bool) (u : Token) (r : Result Progress TextFault) (q : Progress) → cond b r (fault u BadToken) ≡ Ok q
    → (b ≡ true) × (r ≡ Ok q)
cond_ok true u r q h = (refl, h)
cond_ok false u r q h = absurd cc

-- a walk doesn't end inside of a transaction
not_inside : (s : Script) (final : Progress) → final.place ≡ outermost → (p : Place) → p ≢ outermost → progress s p ≡ final → ⊥
not_inside s final ends p n h = n (ap (λ (x : Progress). x.place) h ∙ ends)

is_apart : (s : Script) (final : Progress) → final.place ≡ outermost → IsApart (asking s) final
is_apart s final ends = record {
  between = λ cs. not_inside s final ends (at_command cs) (λ x. absurd cc);
  inner = λ cs p. not_inside s final ends (within cs p) (λ x. absurd cc);
}

pub reads_script : (fuel : ℕ) (t : Tables) (s : Script) (ts : List Token) (final : Progress) → length ts < fuel → final.place ≡ outermost
    → walk (script_language t) (progress s outermost) ts ≡ Ok final → ReadsTransactions t s ts final
reads_script zero t s ts final lt e h = absurd (omega arith)
reads_script (suc fuel) t s [] final lt e h = record {
  script = [];
  transactions = refl;
  whole = sym (ap (λ (p : Progress). p.script) (walk_none (script_language t) (progress s outermost) final h)) ∙ sym (append-nil s);
}
reads_script (suc fuel) t s (u ∷ ts) final lt e h =
    let r = walk_cons (script_language t) (progress s outermost) final u ts h in
    let b = cond_ok (bytes_eq u.text (codes "begin")) u (at s (at_command [])) r.0 r.1 in
    let same : progress s (at_command []) ≡ r.0 = let x = b.1 in cc in
    let c = reads_commands (script_language t) t (asking s) (asks t s) final (is_apart s final e) (suc (length ts)) [] ts (omega arith)
    (subst (λ x. walk (script_language t) x ts ≡ Ok final) (sym same) r.2) in
    let less : length c.rest < length ts = c.shorter in
    let others = reads_script fuel t (s ++ c.commands ∷ []) c.rest final (omega arith) e c.walks in
    let behind : words_of ts ≡ (c.words ++ codes "commit" ∷ []) ++ words_of c.rest =
    c.parts ∙ sym (append_assoc c.words (codes "commit" ∷ []) (words_of c.rest)) in
    record {
      script = c.commands ∷ others.script;
      transactions = (
        codes "begin" ∷ (c.words ++ codes "commit" ∷ []),
        words_of c.rest,
        ap (λ w. w ∷ words_of ts) (same_word u.text (codes "begin") b.0) ∙ ap (λ ws. codes "begin" ∷ ws) behind,
        (c.words, c.spells, refl),
        others.transactions,
      );
      whole = others.whole ∙ append_assoc s (c.commands ∷ []) others.script;
    }
