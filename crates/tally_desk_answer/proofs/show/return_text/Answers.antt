use Rattle.std.proofs.Common.{◌∙◌}
use Rattle.serde_json.specs.View.{view}
use Rattle.serde_json.specs.declared.value.Value.{Object}
use Rattle.serde_json.proofs.Views.{view-Object}
use Rattle.tally_desk_answer.specs.Shown.{shown_return}
use Rattle.tally_desk_answer.proofs.ShownLemmas.{return_free, text_of}
use Rattle.tally_desk_answer.proofs.show.return_text.Goals as goal

pub returns : goal.returns
returns c =
    text_of c.to_string.result (view (Object c.put_return.new.map)) (shown_return c.args.station.now c.args.kept.now) (view-Object c.put_return.new.map ∙ c.in_ok-put_return.ensures) (return_free c.args.station.now c.args.kept.now) c.to_string.ensures.text
