-- the source that was called comes back
use Rattle.std.proofs.Common.{ap, map}
use Rattle.journal_check.proofs.Sources.{taken_first}
use Rattle.journal_check.proofs.session_acts.compare_next.Goals as goal

pub returns-clause-next : goal.returns-clause-next
returns-clause-next g c = record {
  one = c.remove-source.result;
  other = c.rerun-compared.result.source;
  set = g.K.SessionScreens.meaning c.remove-set.result;
  rest_is = taken_first c.args.progress.now.rest.items c.remove-source.new.self.items
      c.remove-source.result c.requires.source c.remove-source.ensures.value
      c.remove-source.ensures.by_index.2;
  screens_is = ap (map g.K.SessionScreens.meaning)
      (taken_first c.args.progress.now.screens.items c.remove-set.new.self.items
      c.remove-set.result c.requires.set c.remove-set.ensures.value c.remove-set.ensures.by_index.2);
  back_is = c.push_reserved.ensures.items;
  is_back = record {
    later = c.rerun-compared.ensures.later;
    name_is = c.rerun-compared.ensures.name;
  };
  alike = c.rerun-compared.ensures.alike;
  apart = c.rerun-compared.ensures.apart;
  rose = c.rerun-compared.ensures.read_fault;
}
