-- What is left to show of `take_for`.
use Rattle.std.proofs.Common.{◌≡◌, ◌∙◌, ap}
use Rattle.std.specs.Prelude.{◌≢◌}
use Rattle.intake.specs.declared.refusal.Refusal.TheVariants.{NoMemory}
use Rattle.taketext.specs.Refusals.{refusal_line}
use Rattle.source.specs.Views.{seen_words}
use Rattle.choosing.specs.declared.wish.Wish.TheVariants.{These}
use Rattle.choosing.specs.Spoken.{wanted_labels, axiom_labels}
use Rattle.expanding.specs.Asking.{spoken, asked}
use Rattle.editopening.specs.Refusals.{IsUntakenBy}
use Rattle.expanding.specs.Views.{seen_scripts}
use Rattle.editscripts.proofs.Lines.{told_more}
use Rattle.editopening.proofs.beginning.take_for.Goals as goal

pub returns-in-Ok-clause-taken : goal.returns-in-Ok-clause-taken
returns-in-Ok-clause-taken g c =
    let s = g.D.Declared.scope c.args.declared.now in
    let scripts = seen_scripts c.args.scripts.now in
    let words : seen_words c.as_slice-spoken.result.now ≡ spoken s scripts =
    ap seen_words c.as_slice-spoken.ensures.value ∙ c.in_ok-asked.ensures.spoken in
    let proofs : seen_words c.as_slice-proofs.result.now ≡ asked scripts =
    ap seen_words c.as_slice-proofs.ensures.value ∙ c.in_ok-asked.ensures.asked in
    record {
      wish = These c.as_slice.result c.as_slice-2.result;
      by = (
        ap seen_words c.as_slice.ensures.value ∙ c.in_ok-wanted.ensures.labels
            ∙ ap (λ ws. wanted_labels s ws (seen_words c.as_slice-proofs.result.now)) words
            ∙ ap (wanted_labels s (spoken s scripts)) proofs,
        ap seen_words c.as_slice-2.ensures.value ∙ c.in_ok-wanted.ensures.axioms
            ∙ ap (λ ws. axiom_labels s ws (seen_words c.as_slice-proofs.result.now)) words ∙ ap (axiom_labels s (spoken s scripts)) proofs,
      );
      library = c.in-Ok.ensures.taken;
    }

pub returns-clause-refused : goal.returns-clause-refused
returns-clause-refused g c =
    let s = g.D.Declared.scope c.args.declared.now in
    let scripts = seen_scripts c.args.scripts.now in
    let words : seen_words c.as_slice-spoken.result.now ≡ spoken s scripts =
    ap seen_words c.as_slice-spoken.ensures.value ∙ c.in_ok-asked.ensures.spoken in
    let proofs : seen_words c.as_slice-proofs.result.now ≡ asked scripts =
    ap seen_words c.as_slice-proofs.ensures.value ∙ c.in_ok-asked.ensures.asked in
    let path = c.args.path.now in
    let source = c.args.source.now in
    let why = c.in-Err.why in
    told_more (λ line. (why ≢ NoMemory) × (line ≡ refusal_line path source why)) (IsUntakenBy path source s scripts)
    (λ line h. record {
      wish = These c.as_slice.result c.as_slice-2.result;
      by = (
        ap seen_words c.as_slice.ensures.value ∙ c.in_ok-wanted.ensures.labels
            ∙ ap (λ ws. wanted_labels s ws (seen_words c.as_slice-proofs.result.now)) words
            ∙ ap (wanted_labels s (spoken s scripts)) proofs,
        ap seen_words c.as_slice-2.ensures.value ∙ c.in_ok-wanted.ensures.axioms
            ∙ ap (λ ws. axiom_labels s ws (seen_words c.as_slice-proofs.result.now)) words ∙ ap (axiom_labels s (spoken s scripts)) proofs,
      );
      why = c.in-Err.why;
      refused = c.in-Err.ensures.refused;
      told = h.0;
      says = h.1;
    }) c.in_ok-untaken-in-Err.field-0 c.in_ok-untaken-in-Err.ensures
