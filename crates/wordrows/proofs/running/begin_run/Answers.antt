use Rattle.std.proofs.Common.{◌≡◌, ◌∙◌, ℕ, ap, subst, true}
use Rattle.std.proofs.lemmas.List.Elements.{All-nil, All-same}
use Rattle.ranges.specs.Ranges.{AreOfOneStore}
use Rattle.tlwords.specs.Runs.{was_read}
use Rattle.wordrows.proofs.Kept.{all_later}
use Rattle.wordrows.proofs.running.begin_run.Goals as goal

pub returns : goal.returns
returns c =
    let begins = c.begin-run.ensures.begins in
    let home = ap (λ x. x.known.home) begins.is ∙ c.requires.opening in
    record {
      home = home;
      mode = ap (λ x. x.mode) begins.is;
      read = All-same (λ k. was_read c.begin-run.result.slots k ≡ true) c.new.result.items _ c.new.ensures.items
          (All-nil (λ k. was_read c.begin-run.result.slots k ≡ true));
      there = all_later c.args.rest.pass.seen.ranges c.begin-run.result.known.seen.ranges c.args.rest.ranges.items begins.grows.2
          c.requires.there;
      store = subst (λ (n : ℕ). AreOfOneStore n c.begin-run.result.known.seen.ranges) (ap (λ h. h.room) home)
          (begins.stands.knows.ranges _ (ap (λ h. h.setting) home));
      kept = λ _ d v e. absurd (let f = (begins.blank d).1 in cc);
    }
