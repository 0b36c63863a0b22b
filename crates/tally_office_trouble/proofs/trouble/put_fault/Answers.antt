use Rattle.std.proofs.Common.{◌≡◌, sym}
use Rattle.tally_office_trouble.proofs.trouble.put_fault.Goals as goal

pub returns-in-NotToml : goal.returns-in-NotToml
returns-in-NotToml g c = rw c.in-NotToml.is c.put.ensures

pub returns-in-Missing : goal.returns-in-Missing
returns-in-Missing g c = rw c.in-Missing.is c.put_named.ensures

pub returns-in-BadValue : goal.returns-in-BadValue
returns-in-BadValue g c = rw c.in-BadValue.is c.put_named-in-BadValue.ensures

pub returns-in-OverLimit : goal.returns-in-OverLimit
returns-in-OverLimit g c = rw c.in-OverLimit.is c.put_named-in-OverLimit.ensures

pub returns-in-Duplicate : goal.returns-in-Duplicate
returns-in-Duplicate g c =
    let is : c.as_str.result.now ≡ c.in-Duplicate.code = c.as_str.ensures.text in
    rw (c.in-Duplicate.is, sym is) c.put_named-in-Duplicate.ensures

pub returns-in-UnknownProfile : goal.returns-in-UnknownProfile
returns-in-UnknownProfile g c = rw c.in-UnknownProfile.is c.put-in-UnknownProfile.ensures

pub returns-in-Memory : goal.returns-in-Memory
returns-in-Memory g c = rw c.in-Memory.is c.put-in-Memory.ensures
