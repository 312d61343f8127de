use Rattle.ml_command.proofs.make_command.make_list.Goals as goal

pub returns : goal.returns
returns g c = record {
  known = c.make.ensures.statuses;
  makes = c.make.ensures.makes;
  state = λ told. c.make.ensures.state told c.requires;
  there = c.make.ensures.there;
  instants = c.make.ensures.instants;
  at_rest = c.make.ensures.at_rest;
  rest = c.make.ensures.rest;
  of_disk = c.make.ensures.counts.of_disk;
  of_output = c.make.ensures.counts.of_output;
}
