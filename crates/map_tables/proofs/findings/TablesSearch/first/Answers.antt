use Rattle.map_tables.proofs.findings.TablesSearch.first.Goals as goal

pub first_where-requires-in-N10-clause-most : goal.first_where-requires-in-N10-clause-most
first_where-requires-in-N10-clause-most c = rw c.in-N10.is c.offset_count.ensures
