use Rattle.std.proofs.Common.{◌∙◌}
use Rattle.serde_json.specs.View.{view}
use Rattle.serde_json.specs.declared.value.Value.{Object}
use Rattle.serde_json.proofs.Views.{view-Object}
use Rattle.tally_desk_answer.specs.Shown.{shown_con}
use Rattle.tally_desk_answer.proofs.ShownLemmas.{con_free, text_of}
use Rattle.tally_desk_answer.proofs.show.con_text.Goals as goal

pub returns : goal.returns
returns c =
    text_of c.to_string.result (view (Object c.put_entry.new.map)) (shown_con c.args.con.now c.args.seen.now) (view-Object c.put_entry.new.map ∙ c.in_ok-put_entry.ensures) (con_free c.args.con.now c.args.seen.now) c.to_string.ensures.text
