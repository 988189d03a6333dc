pub mod SampleRun
