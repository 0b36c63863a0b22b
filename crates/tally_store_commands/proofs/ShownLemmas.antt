-- What is found of a constituency that is shown without its certificates on record.
use Rattle.std.proofs.Common.{◌≡◌, false, List, [], ℕ, Option, Some, None, Ok, Err, inl, refl, sym, subst}
use Rattle.std.specs.FinMap.{get, insert}
use Rattle.sqlite.specs.State.{State as Seen}
use Rattle.tally_setup.specs.Constituency.{Constituency}
use Rattle.tally_setup.specs.Setup.{constituency_with}
use Rattle.tally_returns.specs.State.{State}
use Rattle.tally_returns.specs.View.{View}
use Rattle.tally_returns.specs.declared.ask.Ask.TheVariants.{ShowCon}
use Rattle.tally_returns.specs.declared.refusal.Refusal.TheVariants.{NoConstituency}
use Rattle.tally_returns.proofs.ClosedLemmas.{constituency_with-code, constituency_with-own}
use Rattle.tally_machine_law.specs.Step.{no_change}
use Rattle.tally_machine_law.proofs.DecisionLemmas.{decisions-steps, unknown-constituency}
use Rattle.tally_store_rows.specs.Views.{statuses_of}
use Rattle.tally_store_rows.specs.declared.views.Statuses.{Statuses}
use Rattle.tally_store_entries.specs.internal.Constituencies.{FindsView, IsKnown, IsViewWith, with_past_of}
use Rattle.tally_store_commands.specs.internal.Known.{Known}
use Rattle.tally_store_commands.specs.internal.Shown.{FindsKnown, FindsShown, IsShownIn}
use Rattle.tally_store_commands.proofs.KnownLemmas.{known-remembered, seen-statuses}

-- a code that is no constituency
pub unknown-shown : (setup : List Constituency) (s : State) (code : List ℕ) → constituency_with code setup ≡ None → IsShownIn setup s code (Err NoConstituency)
unknown-shown setup s code none = ([], inl (unknown-constituency setup s code (ShowCon code) refl none))

-- what is seen of one, without its certificates on record
pub seen-shown : (setup : List Constituency) (s : State) (con : Constituency) (view : View) → constituency_with con.code setup ≡ Some con → IsViewWith false con s view → IsShownIn setup s con.code (Ok view)
seen-shown setup s con view found seen =
    let whole = with_past_of con s view in
    (whole.past, inl (decisions-steps setup s con con.code whole (ShowCon con.code) (Ok no_change) (refl, found) seen.1 refl))

-- and it is found by what is known
pub view-shown : (setup : List Constituency) (con : Constituency) (code : List ℕ) (known : Known) (here : Option Statuses) (view : View) (seen : Seen) → constituency_with code setup ≡ Some con → here ≡ get known con.code → FindsView setup con here false seen view → FindsShown setup known code seen (Ok view)
view-shown setup con code known here view seen found is finds text s lawful held tables =
    let own = constituency_with-own setup code con found in
    subst (λ c. IsShownIn setup s c (Ok view)) (constituency_with-code setup code con found)
    (seen-shown setup s con view own (finds text s own lawful (subst (IsKnown con s.returns) (sym is) (held con own)) tables))

-- and is known then
pub view-known : (setup : List Constituency) (con : Constituency) (code own_code : List ℕ) (known after : Known) (here : Option Statuses) (statuses : Statuses) (view : View) (seen : Seen) → constituency_with code setup ≡ Some con → here ≡ get known con.code → FindsView setup con here false seen view
    → own_code ≡ con.code → statuses ≡ statuses_of view → after ≡ insert known own_code statuses → FindsKnown setup known after seen
view-known setup con code own_code known after here statuses view seen found is finds own statuses_are put text s lawful held tables =
    let there = constituency_with-own setup code con found in
    let was = finds text s there lawful (subst (IsKnown con s.returns) (sym is) (held con there)) tables in
    known-remembered setup s.returns known after con own_code statuses there own (seen-statuses con s statuses (with_past_of con s view) statuses_are was.1.0) held put
