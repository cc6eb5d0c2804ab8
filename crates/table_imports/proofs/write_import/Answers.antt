use Rattle.table_imports.proofs.ImportSteps.{host_room, sig_room, import_written}
use Rattle.table_imports.proofs.write_import.Goals as goal

pub canon_type-sig-requires : goal.canon_type-sig-requires
canon_type-sig-requires c = sig_room _ _ _ c.requires.ready c.requires.sigs_inside _ c.requires.i_lt_imports c.import_sig-stored.ensures

pub host_entry-host-requires : goal.host_entry-host-requires
host_entry-host-requires c = host_room _ _ _ c.requires.ready c.requires.sigs_inside _ c.requires.i_lt_imports

pub returns : goal.returns
returns c = record {
  table_after = import_written _ _ _ c.requires.ready c.requires.sigs_inside _ c.requires.i_lt_imports c.import_sig-stored.ensures _ _ _ c.canon_type-sig.ensures c.host_entry-host.ensures c.push_all.ensures.table_after;
  value = c.push_all.ensures.value;
}
