use Rattle.export.proofs.Accepted.{exported_accepted}
use Rattle.checking.proofs.texts.replay.Goals as goal

pub returns-clause-done : goal.returns-clause-done
returns-clause-done g c =
    let library = c.in_ok-entries.library in
    let led = c.in_ok-entries.ensures.done in
    let text = rw c.as_slice.ensures at c.in_ok-replayed_text.ensures in
    record {
      contents = led.contents;
      checked = led.checked;
      history = c.in_ok-entries.entries;
      read = led.read;
      printed = record {
        library = library;
        after = led.after;
        prints = text;
        accepted = exported_accepted library c.entries-entries.ensures.verifies c.entries-entries.ensures.ordered;
      };
    }
