-- The stations of a constituency, each with the return that is found of it.
use Rattle.std.proofs.Common.{◌≡◌, ◌≤◌, ℕ, List, length, Option, Some, None, Ok, Err, inl, refl, ap, subst, sym}
use Rattle.std.specs.Prelude.{Vec}
use Rattle.std.specs.declared.alloc.Global.{Global}
use Rattle.sqlite.specs.State.{State as Seen, IsUnchanged}
use Rattle.tally_setup.specs.Constituency.{Constituency}
use Rattle.tally_setup.specs.Limits.{IsConstituency, IsSetup}
use Rattle.tally_setup.specs.Setup.{constituency_with}
use Rattle.tally_setup.specs.declared.constituency.Station.{Station}
use Rattle.tally_returns.specs.Return.{StationReturn}
use Rattle.tally_returns.specs.State.{State}
use Rattle.tally_returns.specs.StationRows.{station_row}
use Rattle.tally_returns.specs.declared.refusal.Refusal.TheVariants.{NoConstituency}
use Rattle.tally_returns.specs.declared.station_row.StationRow.{StationRow}
use Rattle.tally_machine_law.specs.LawfulState.{IsLawfulState}
use Rattle.tally_store_schema.specs.Office.{IsInside}
use Rattle.tally_store_rows.specs.TablesOfState.{AreTables}
use Rattle.tally_store_entries.specs.internal.Entries.{FindsReturn}
use Rattle.tally_store_commands.specs.internal.Stations.{FindsRows, FindsStations}
use Rattle.tally_store_commands.proofs.LodgedLemmas.{found-is, still}

-- the row of a station whose return was found, where nothing had changed before
pub station-row : (setup : List Constituency) (text : List ℕ) (s : State) (station : Station) (old mid : Seen) (found : Option StationReturn) → IsSetup setup → IsLawfulState setup s → IsUnchanged old mid → IsInside old
    → AreTables setup text s old.now.trees → FindsReturn setup station.code mid found → record { station = station.code; electors = station.electors; found = found } ≡ station_row s.returns station
station-row setup text s station old mid found limits lawful same inside tables finds =
    let here = still setup text s old mid same inside tables in
    ap (λ (f : Option StationReturn). record { station = station.code; electors = station.electors; found = f }) (found-is setup text s station.code mid found limits lawful here.tables finds)

-- a constituency has a station
pub some-station : (con : Constituency) (stations : List Station) → IsConstituency con → stations ≡ con.stations → 1 ≤ length stations
some-station con stations limits all = subst (λ l. 1 ≤ length l) (sym all) limits.some_station

-- a code that is no constituency
pub unknown-stations : (setup : List Constituency) (code : List ℕ) (seen : Seen) → constituency_with code setup ≡ None → FindsStations setup code seen (Err NoConstituency)
unknown-stations setup code seen none text s lawful tables = (refl, inl (refl, none))

-- the rows of one
pub known-stations : (setup : List Constituency) (code : List ℕ) (con : Constituency) (seen : Seen) (rows : Vec StationRow Global) → constituency_with code setup ≡ Some con
    → FindsRows setup con.stations seen rows.items → FindsStations setup code seen (Ok rows)
known-stations setup code con seen rows found finds text s lawful tables = (refl, con, found, finds text s lawful tables)
