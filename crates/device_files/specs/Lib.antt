pub mod DeviceFiles
