use Rattle.usb_file.proofs.laws.part_laws.Goals as goal

pub returns : goal.returns
returns c =
    record {
      one_device = c.device_descriptor_round_trip.ensures.one_descriptor;
      device_written = c.device_descriptor_round_trip.ensures.written;
      one_qualifier = c.qualifier_round_trip.ensures.one_qualifier;
      qualifier_written = c.qualifier_round_trip.ensures.written;
      one_list = c.units_round_trip.ensures.one_list;
      units_written = c.units_round_trip.ensures.written;
      one_set = c.one_layout.ensures.begins;
      one_fault = c.one_judgement.ensures.one_fault;
      not_both = c.one_judgement.ensures.not_both;
      some = c.one_judgement.ensures.some;
    }
